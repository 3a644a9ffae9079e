mod Reading
mod Giving
mod Counting
mod Numbers
mod Hints
