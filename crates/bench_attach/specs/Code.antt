-- An answer of attaching as one number, for a C program. Assumes nothing.
use Rattle.std.specs.Prelude.{ℕ, ◌+◌}
use Rattle.base.specs.Answers.{Answer, given, refused}
use Rattle.report.specs.declared.Report.{Report}

-- the report's grade, or 16 and the refusal's number
abbrev pub code_of : Answer Report → ℕ
code_of (given r) = r.grade
code_of (refused k p) = k + 16
