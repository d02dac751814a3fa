mod Days
mod Numbers
mod Padding
mod Parts
