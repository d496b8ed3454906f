mod Arrays
mod Order
