mod Doubles
mod Parts
mod Telling
