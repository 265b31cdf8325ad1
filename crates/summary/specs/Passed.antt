-- What a call answers, by the guard that its questions let through. Assumes nothing: definitions.
use Rattle.guard.specs.Guard.{Guard}
use Rattle.guard.specs.Number.{Parsed, and_then, return}

-- only that every question got a yes
abbrev pub passed : Parsed Guard → Parsed (Unit {0})
passed p = and_then (λ g. return tt) p
