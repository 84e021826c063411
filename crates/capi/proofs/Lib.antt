-- The proofs of what is handed to C.
mod Handing
