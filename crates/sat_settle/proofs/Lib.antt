pub mod Unsatisfiable
