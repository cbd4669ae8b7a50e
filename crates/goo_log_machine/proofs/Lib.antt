mod Lists
mod Kept
mod Grown
