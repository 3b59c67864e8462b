mod Asking
mod Comparing
mod Copying
