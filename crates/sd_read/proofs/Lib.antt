mod Found
mod Numbered
mod TextLines
mod Within
