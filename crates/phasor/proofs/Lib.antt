mod RuledOut
mod Table
