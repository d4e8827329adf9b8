-- A condition of an accepted plan: its value is usable, it is on a task, and the test of 22 for it. Assumes nothing.
use mathlib.Core.Path.{◌≡◌}
use mathlib.Core.Bool.{Bool, true, false, cond, not, ◌&&◌}
use mathlib.Core.List.{List}
use Prim.Native.Nat.{ℕ, ◌+◌, ◌<◌}
use lib.ListN.{get_or}
use lib.Dec.{eqb}
use Rattle.plan_codes.specs.Values.{flag_of, place_of}
use Rattle.run_flags.specs.Flags.{flag_in}
use Rattle.plan_format.specs.Format.{node_count, kind_of, cond_count, cond_node, cond_value}
use Rattle.plan_rules.specs.Rules.{refusal}
use Rattle.plan_check.proofs.Accepted.{clean}
use Rattle.plan_rules.proofs.Causes.{Usable, usable, condition_fits}
use Rattle.plan_check.proofs.Meaning.{kind_is}
use Rattle.runs.specs.Tests.{same_b}
use Rattle.run_starts.specs.Starts.{node_byte}
use Rattle.run_state.specs.Made.{set_at}
use Rattle.run_conditions.specs.Conditions.{broken_at}

pub values : (b : List ℕ) → refusal b ≡ 0 → Usable b
values b e = let c = clean b e in usable b c.fits c.conditions

-- a condition is on a task
pub on_task : (b : List ℕ) → refusal b ≡ 0 → (i : ℕ) → i < cond_count b
    → (cond_node b i < node_count b) × (kind_of b (cond_node b i) ≡ 0)
on_task b e i l = let c = clean b e in kind_is b (cond_node b i) 0 (condition_fits b c.fits c.conditions i l).0

-- the test of an incondition, by what the function has at hand
pub broken_turn : (b s clear set : List ℕ) (M : ℕ → Bool) (i node f : ℕ) (sign kept o m d : Bool) → node ≡ cond_node b i
    → o ≡ eqb (place_of (cond_value b i)) 1 → m ≡ M node → f ≡ flag_of (cond_value b i) → sign ≡ set_at b i
    → kept ≡ flag_in (cond sign set clear) f → d ≡ not (same_b sign kept)
    → (o && not m && eqb (get_or s (8 + node) 0) 1 && d) ≡ broken_at b s clear set M i
unfolding broken_at node_byte
broken_turn b s clear set M i node f sign kept o m d en eo em ef es ek ed = rw (ed, ek, eo, em, en, ef, es)

pub kept_set : (clear set : List ℕ) (f : ℕ) (sign : Bool) → sign ≡ true
    → flag_in set f ≡ flag_in (cond sign set clear) f
kept_set clear set f sign y = rw y

pub kept_clear : (clear set : List ℕ) (f : ℕ) (sign : Bool) → sign ≡ false
    → flag_in clear f ≡ flag_in (cond sign set clear) f
kept_clear clear set f sign y = rw y
