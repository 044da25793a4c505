-- 01 'Refusal numbers': the refusals of a slip. Assumes nothing.
use Rattle.geometry.specs.declared.SlipError.{SlipError}
use Rattle.geometry.specs.declared.SlipError.TheVariants.{Malformed, Outside}
use Rattle.refusals.specs.declared.Refused.{Refused}

-- refusals 1 and 2, as they leave a call that attaches or builds
abbrev pub slip_refused : SlipError → Refused
slip_refused Malformed = record { number = 1; place = 0 }
slip_refused Outside = record { number = 2; place = 0 }
