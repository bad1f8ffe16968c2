mod Adding
mod Changing
mod Filling
mod Lists
mod Sizes
mod Whole
