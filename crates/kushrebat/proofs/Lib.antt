mod Carried
mod Cuts
mod Numbers
mod Spelt
