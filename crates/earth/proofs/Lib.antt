mod RuledOut
