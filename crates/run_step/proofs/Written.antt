-- The bytes that an event's literals and byte leave; a group has no literals, and only its byte is written. Assumes
-- nothing.
use mathlib.Core.Path.{◌≡◌, refl, sym, ap, ◌∙◌}
use mathlib.Core.Logic.{◌≢◌}
use mathlib.Core.Bool.{Bool}
use mathlib.Core.List.{List, ◌++◌}
use mathlib.Core.Option
use mathlib.Core.Option.{Option, some, none}
use Prim.Native.Nat.{ℕ, ◌+◌, ◌-◌, ◌/◌, ◌<◌, ◌≤◌}
use native.Mathlib.Omega.{arith}
use lib.ListN.{length, get_or, take, drop, set, length-set, length-append, length-drop, get_or-append}
use lib.ListN.{take-append-drop}
use lib.Seq.{get_or-set_same, get_or-set_other, get_or-append-add, get_or-drop, length-take-le}
use Rattle.run_flags.specs.Flags.{flag_in}
use Rattle.run_flags.proofs.EachFlag.{same_byte, in_first}
use Rattle.plan_format.specs.Format.{node_count, cond_count, flag_count, kind_of}
use Rattle.base.proofs.Booleans.{not_passed}
use Rattle.plan_check.specs.Meaning.{plan_of, sign_in}
use Rattle.plan_check.proofs.Meaning.{means}
use Rattle.runs.specs.Plan.{Place, place_number}
use Rattle.run_starts.specs.Starts.{node_byte}
use Rattle.run_state.specs.Inner.{state_refusal}
use Rattle.run_state.proofs.Passed.{has_room}
use Rattle.run_state.specs.Made.{made}
use Rattle.node_sets.specs.One.{only}
use Rattle.run_conditions.proofs.Literals.{literals_idle, made_length}
use Rattle.run_conditions.proofs.Signs.{made_flag, of_is}
use Rattle.run_conditions.proofs.Conditions.{on_task}
use Rattle.run_step.specs.Steps.{with_event}

module _ (b s : List ℕ) (ok : state_refusal b s ≡ 0) (k : Place) (t x : ℕ) (inside : t < node_count b) where
  abbrev flags : List ℕ
  flags = made b (place_number k) (only t) (take 8 s)

  eight : length (take 8 s) ≡ 8
  eight = length-take-le 8 s (omega (arith, (has_room b s ok).room))

  flags_eight : length flags ≡ 8
  flags_eight = made_length b (place_number k) (only t) (take 8 s) ∙ eight

  abbrev next : List ℕ
  next = with_event b (place_number k) t x s

  joined_length : length (flags ++ drop 8 s) ≡ length s
  joined_length = simp (length-append, length-drop) (omega (arith, flags_eight, (has_room b s ok).room))

  pub next_length : length next ≡ length s
  unfolding with_event
  next_length = length-set (flags ++ drop 8 s) (8 + t) x ∙ joined_length

  pub byte_own : node_byte next t ≡ x
  unfolding with_event node_byte
  byte_own = get_or-set_same (flags ++ drop 8 s) (8 + t) x 0
      (omega (arith, joined_length, (has_room b s ok).room))

  pub byte_other : (n : ℕ) → (n ≡ t → ⊥) → node_byte next n ≡ node_byte s n
  unfolding with_event node_byte
  byte_other n h =
      get_or-set_other (flags ++ drop 8 s) (8 + t) (8 + n) x 0 (λ e. h (omega arith))
      ∙ ap (λ (m : ℕ). get_or (flags ++ drop 8 s) (m + n) 0) (sym flags_eight)
      ∙ get_or-append-add flags (drop 8 s) n 0
      ∙ get_or-drop 8 s n 0

  -- the bytes of the flags
  pub byte_flags : (i : ℕ) → i < 8 → get_or next i 0 ≡ get_or flags i 0
  unfolding with_event
  byte_flags i l = get_or-set_other (flags ++ drop 8 s) (8 + t) i x 0 (λ e. omega arith)
      ∙ get_or-append flags (drop 8 s) 0 i (omega (arith, flags_eight))

  pub flag_next : (f : ℕ) → f < 64 → flag_in next f ≡ Option.get_or (sign_in b k t f) (flag_in s f)
  flag_next f l =
      same_byte next flags f (byte_flags (f / 8) (omega arith))
      ∙ made_flag b (has_room b s ok).accepted k t (take 8 s) (omega (arith, eight)) f
      ∙ ap (λ (v : Bool). Option.get_or (sign_in b k t f) v) (in_first s f l)

  pub no_sign : (f : ℕ) → flag_count b ≤ f → sign_in b k t f ≡ none
  unfolding plan_of
  no_sign f l = at (sign_in b k t f) refl
    where
      at : (o : Option Bool) → sign_in b k t f ≡ o → o ≡ none
      at none e = refl
      at (some v) e = absurd (omega (arith, ((means b (has_room b s ok).accepted).accepted.on_task k t f v e).2))

  -- the bytes after those of the nodes
  pub byte_past : (j : ℕ) → 8 + node_count b ≤ j → get_or next j 0 ≡ get_or s j 0
  unfolding node_byte
  byte_past j l =
      let q : 8 + (j - 8) ≡ j = omega arith in
      rw q at (byte_other (j - 8) (λ e. omega arith))

-- ---- a group
module _ (b s : List ℕ) (ok : state_refusal b s ≡ 0) (g : ℕ) (group : kind_of b g ≢ 0) where
  -- no condition is of it
  no_literals : (q : ℕ) (bytes : List ℕ) → made b q (only g) bytes ≡ bytes
  unfolding made
  no_literals q bytes = literals_idle b q (only g) (cond_count b) bytes (λ i l. not_passed _ (λ y. group
      (ap (kind_of b) (sym (of_is b q g i y).0) ∙ (on_task b (has_room b s ok).accepted i l).1)))

  pub only_byte : (q x : ℕ) → set s (8 + g) x ≡ with_event b q g x s
  unfolding with_event
  only_byte q x = rw (no_literals q (take 8 s), take-append-drop 8 s)
