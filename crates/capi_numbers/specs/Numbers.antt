-- The numbers by which the C interface tells answers: a refusal is its own number. Definitions only.
use Rattle.std.specs.Prelude.{◌⊎◌, List, ℕ, ◌+◌}
use Rattle.std.proofs.Common.{inl, inr}
use Rattle.sequences.specs.Word.{sequence_word}
use Rattle.runs.specs.Verdict.{Verdict, CLEAR, DOOMED, OPEN}
use Rattle.run_monitor.specs.Status.{Word, COMPLETE, UNFINISHED}

abbrev pub verdict_number : ℕ ⊎ Verdict → ℕ
verdict_number (inl n) = n
verdict_number (inr CLEAR) = 128
verdict_number (inr DOOMED) = 129
verdict_number (inr OPEN) = 130

abbrev pub status_number : ℕ ⊎ Word → ℕ
status_number (inl n) = n
status_number (inr COMPLETE) = 128
status_number (inr UNFINISHED) = 129

-- a length after 256
abbrev pub written_number : ℕ ⊎ ℕ → ℕ
written_number (inl n) = n
written_number (inr n) = 256 + n

-- the word of a sequence, which is at least 2^56
abbrev pub sequence_number : ℕ ⊎ List ℕ → ℕ
sequence_number (inl n) = n
sequence_number (inr xs) = sequence_word xs
