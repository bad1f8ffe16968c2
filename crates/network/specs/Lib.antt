-- What contracts cite. What is proved of it is below `laws`.
pub mod Records
pub mod SourceKinds
pub mod Network
pub mod Grounds
pub mod Additions
pub mod Grid
pub mod Demand
pub mod RoundedSourceKinds
pub mod Doubles
pub mod Query
pub mod PlainList
pub mod Promise
pub mod Tables
pub mod Report
pub mod NearPeaks
pub mod laws
