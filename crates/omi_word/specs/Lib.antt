-- The definition to believe: word memory and its operations.
pub mod Memory
-- What stands at each address, and the symbol table there.
pub mod Words
pub mod SymbolTable
