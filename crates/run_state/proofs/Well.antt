-- A state that is not malformed, part by part. Assumes nothing.
use mathlib.Core.Path.{◌≡◌}
use mathlib.Core.Bool.{false, ◌||◌}
use mathlib.Core.List.{List}
use Prim.Native.Nat.{ℕ, ◌<◌}
use Rattle.plan_format.specs.Format.{node_count}
use Rattle.runs.specs.Searches.{any_below}
use Rattle.base.proofs.Booleans.{or_none}
use Rattle.runs.proofs.Searches.{none_at, none_all}
use Rattle.run_starts.proofs.Numbers.{WellNumbered, all_once, once_all}
use Rattle.run_state.specs.State.{bad_flag, bad_byte, bad_node, bad_absent, malformed_under}
use Rattle.run_starts.specs.Starts.{stray_ordinal, misnumbered}

module _ (b s : List ℕ) where
  pub record Well : Type 0 where
    pub flags : (f : ℕ) → f < 64 → bad_flag b s f ≡ false
    pub bytes : (n : ℕ) → n < node_count b → bad_byte b s n ≡ false
    pub numbers : WellNumbered b s

-- and under a list of blocked nodes
module _ (b xs s : List ℕ) where
  pub record WellUnder : Type 0 where
    pub well : Well b s
    pub absent : (n : ℕ) → n < node_count b → bad_absent b xs s n ≡ false

  pub well_under : malformed_under b xs s ≡ false → WellUnder
  unfolding malformed_under bad_node
  well_under e =
      let v = or_none (any_below 64 (bad_flag b s) || any_below (node_count b)
      (λ n. bad_node b s n || bad_absent b xs s n))
      (misnumbered b s) e in
      let w = or_none (any_below 64 (bad_flag b s))
      (any_below (node_count b) (λ n. bad_node b s n || bad_absent b xs s n))
      v.0 in
      let node : (n : ℕ) → n < node_count b → (bad_node b s n ≡ false) × (bad_absent b xs s n ≡ false) =
      λ n l. or_none (bad_node b s n) (bad_absent b xs s n) (none_at (node_count b) _ w.1 n l) in
      let own : (n : ℕ) → n < node_count b → (bad_byte b s n ≡ false) × (stray_ordinal b s n ≡ false) =
      λ n l. or_none (bad_byte b s n) (stray_ordinal b s n) (node n l).0 in
      record {
        well = record {
          flags = none_at 64 (bad_flag b s) w.0;
          bytes = λ n l. (own n l).0;
          numbers = record { strays = λ n l. (own n l).1; once = all_once b s v.1 };
        };
        absent = λ n l. (node n l).1;
      }

  pub from_under : WellUnder → malformed_under b xs s ≡ false
  unfolding malformed_under bad_node
  from_under u = let w = u.well in
      rw (
        none_all 64 (bad_flag b s) w.flags,
        none_all (node_count b) (λ n. bad_node b s n || bad_absent b xs s n)
            (λ n l. rw (w.bytes n l, w.numbers.strays n l, u.absent n l)),
        once_all b s w.numbers.once,
      )
