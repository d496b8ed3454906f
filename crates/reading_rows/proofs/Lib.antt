mod Drawn
mod Examples
