mod Texts
mod Callers
mod Declares
