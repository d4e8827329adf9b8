-- Numbers that inner contracts cite: of kinds and statuses, and the mark of a byte. Definitions only.
use Rattle.std.specs.Prelude.{ℕ, zero, suc}
use Rattle.runs.specs.Plan.{Kind, task, all_of, any_of, optional}
use Rattle.runs.specs.Execution.{Status, waiting, running, done}
use Rattle.runs.specs.Summary.{Mark, may_pre, must_pre, may_post, must_post, may_inc, must_inc, may_clobber}
use Rattle.runs.specs.Summary.{must_clobber}

-- 01's and 02's numbers of kinds
abbrev pub kind_number : Kind → ℕ
kind_number task = 0
kind_number all_of = 1
kind_number any_of = 2
kind_number optional = 3

-- the state's byte for a task (01: record); 02: an optional group's is 2 once it is skipped
abbrev pub status_byte : Status → ℕ
status_byte waiting = 0
status_byte running = 1
status_byte done = 2

-- the mark of a number, back from its byte
abbrev pub mark_at : ℕ → Mark
mark_at zero = may_pre
mark_at (suc zero) = must_pre
mark_at (suc (suc zero)) = may_post
mark_at (suc (suc (suc zero))) = must_post
mark_at (suc (suc (suc (suc zero)))) = may_inc
mark_at (suc (suc (suc (suc (suc zero))))) = must_inc
mark_at (suc (suc (suc (suc (suc (suc zero)))))) = may_clobber
mark_at (suc (suc (suc (suc (suc (suc (suc k))))))) = must_clobber
