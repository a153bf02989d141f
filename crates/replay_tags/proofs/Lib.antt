mod Turns
mod Laws
