-- what the program watch prints for a book and an input (document 01, Program and C entry)
pub mod Printed
