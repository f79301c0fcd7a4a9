-- what the reply of `ranjupeli_write` rules out
mod RuledOut
