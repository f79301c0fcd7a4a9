mod ByName
mod ClockRows
mod HoldRows
mod ZeroRows
mod RuledOut
