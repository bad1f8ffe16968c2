mod Bytes
mod Collecting
mod Records
mod PartRows
mod Taking
