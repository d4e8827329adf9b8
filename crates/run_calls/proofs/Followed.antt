-- Lists of calls by the relations that the calls promise: they return what 01 works out, and the state after them shows
-- the states worked out. Assumes nothing.
use mathlib.Core.Path.{◌≡◌, refl, sym, ap, ◌∙◌}
use mathlib.Core.List.{List, [], ◌∷◌, ◌++◌}
use Prim.Native.Nat.{ℕ, ◌+◌, ◌*◌, ◌≤◌}
use lib.ListN.{length}
use Rattle.plan_format.specs.Format.{node_count}
use Rattle.plan_blocked.specs.Blocked.{plan_under, refusal_under}
use Rattle.plan_check.specs.Meaning.{plan_of, start_of}
use Rattle.runs.specs.Plan.{Plan}
use Rattle.runs.specs.Calls.{Call, World, Answered, Worked}
use Rattle.runs.specs.Calls as runs
use Rattle.run_state.specs.State.{world_of, room_refusal_under, state_refusal_under}
use Rattle.run_state.specs.Fresh.{fresh_state, Freshened}
use Rattle.run_state.proofs.Refused.{room_enough}
use Rattle.run_state.proofs.Passed.{passed}
use Rattle.run_state.proofs.Shown.{fresh_started}
use Rattle.run_monitor.specs.Model.{call_state, call_return}
use Rattle.run_monitor.proofs.Called.{called}
use Rattle.run_calls.specs.Lists.{Calls, no_calls, next_call, ListMade}
use Rattle.base.specs.Bytes.{Bytes}
use Rattle.run_calls.specs.Demand3.{Shows, Follows, EachCall}
use Rattle.run_calls.proofs.Kept.{Kept, fresh_kept, called_kept, group_none, shown_is}

-- one list of calls after another
pub calls_append : {b xs s z y : List ℕ} {cs ds : List Call} {rs ns : List ℕ} → Calls b xs s cs rs z
    → Calls b xs z ds ns y
    → Calls b xs s (cs ++ ds) (rs ++ ns) y
calls_append no_calls d = d
calls_append (next_call x c) d = next_call x (calls_append c d)

-- a list of one call
one_answered : {p q : Plan} {a z : World} {c : Call} {n : ℕ} → Worked p q a (c ∷ []) (n ∷ []) z
    → Answered p q a c n z
one_answered (runs.next_call x runs.no_calls) = x

module _ (b xs : List ℕ) where
  -- the calls of a list after a state s, which keeps what s₀ has
  record Walked (s₀ s : List ℕ) (cs : List Call) (rs z : List ℕ) : Type 0 where
    well_formed : state_refusal_under b xs z ≡ 0
    worked : Worked (plan_of b) (plan_under b xs) (world_of b s) cs rs (world_of b z)
    kept : Kept b s₀ z

  walked : (s₀ : List ℕ) {s z : List ℕ} {cs : List Call} {rs : List ℕ} → state_refusal_under b xs s ≡ 0 → Kept b s₀ s
      → Calls b xs s cs rs z → Walked s₀ s cs rs z
  walked s₀ ok k no_calls = record { well_formed = ok; worked = runs.no_calls; kept = k }
  walked s₀ ok k (next_call x y) =
      let w = walked s₀ (x.well_formed ok) (called_kept ok x k) y in
      record { well_formed = w.well_formed; worked = runs.next_call (x.answered ok) w.worked; kept = w.kept }

  -- the state that fresh wrote: it passes all checks, keeps what it should, and shows the states at first
  record Begun (s at_first : List ℕ) : Type 0 where
    well_formed : state_refusal_under b xs at_first ≡ 0
    kept : Kept b s at_first
    shows : world_of b at_first ≡ runs.fresh (start_of b)

  begun : Bytes b → {s at_first : List ℕ} → Freshened b xs s 0 at_first → Begun s at_first
  begun h {s} x =
      let e : room_refusal_under b xs s ≡ 0 = sym x.returns in
      let f = fresh_started b xs s e in
      record {
        well_formed = ap (state_refusal_under b xs) x.leaves ∙ f.well_formed;
        kept = rw x.leaves (fresh_kept b xs s h e);
        shows = ap (world_of b) x.leaves ∙ f.at_first;
      }

  -- what the bytes show, and that they show it as demand 3 says
  shown : {s z : List ℕ} → state_refusal_under b xs z ≡ 0 → Kept b s z → Shows b xs s (world_of b z) z
  shown {s} {z} ok k = record {
    well_formed = ok;
    states = refl;
    bytes = shown_is b s z (passed b xs z ok) k;
    groups = group_none b s z (passed b xs z ok) k;
    small = k.small;
    as_long = k.as_long;
    later = k.later;
  }

  pub list_follows : Bytes b → (s : List ℕ) (cs : List Call) (rs z : List ℕ) → ListMade b xs s cs rs z
      → Follows b xs s cs rs z
  list_follows h s cs rs z x =
      let g = begun h x.freshened in
      let w = walked s g.well_formed g.kept x.called in
      record { after = world_of b z; worked = rw g.shows at w.worked; shown = shown w.well_formed w.kept }

  -- every list can be made
  record Made (s : List ℕ) (cs : List Call) : Type 0 where
    returns : List ℕ
    leaves : List ℕ
    made : Calls b xs s cs returns leaves

  make : (cs : List Call) (s : List ℕ) → Made s cs
  make [] s = record { returns = []; leaves = s; made = no_calls }
  make (c ∷ cs) s =
      let m = make cs (call_state b xs s c) in
      record {
        returns = call_return b xs s c ∷ m.returns;
        leaves = m.leaves;
        made = next_call (called b xs s c refl refl) m.made;
      }

  pub list_made : refusal_under b xs ≡ 0 → (s : List ℕ) → 8 + 3 * node_count b ≤ length s → (cs : List Call)
      → (rs : List ℕ) × (z : List ℕ) × ListMade b xs s cs rs z
  list_made acc s l cs =
      let m = make cs (fresh_state b xs s) in (
        m.returns,
        m.leaves,
        record {
          at_first = fresh_state b xs s;
          freshened = record { returns = room_enough b xs s acc l; leaves = refl };
          called = m.made;
        },
      )

  -- ---- each call of a list
  -- the calls cs, then c, then ds, parted around c
  record Parted (s : List ℕ) (cs : List Call) (c : Call) (ds : List Call) (rs z : List ℕ) : Type 0 where
    earlier : List ℕ
    returned : ℕ
    later : List ℕ
    between : List ℕ
    left : List ℕ
    returns : rs ≡ earlier ++ (returned ∷ later)
    before : Calls b xs s cs earlier between
    itself : Calls b xs between (c ∷ []) (returned ∷ []) left
    rest : Calls b xs left ds later z

  parted : (s : List ℕ) (cs : List Call) (c : Call) (ds : List Call) (rs z : List ℕ)
      → Calls b xs s (cs ++ (c ∷ ds)) rs z
      → Parted s cs c ds rs z
  parted s [] c ds rs z (next_call {s' = s'} {r = r} {rs = ns} x y) =
      record {
        earlier = [];
        returned = r;
        later = ns;
        between = s;
        left = s';
        returns = refl;
        before = no_calls;
        itself = next_call x no_calls;
        rest = y;
      }
  parted s (d ∷ cs) c ds rs z (next_call {s' = s'} {r = r} {rs = ns} x y) =
      let p = parted s' cs c ds ns z y in
      record {
        earlier = r ∷ p.earlier;
        returned = p.returned;
        later = p.later;
        between = p.between;
        left = p.left;
        returns = ap (λ (l : List ℕ). r ∷ l) p.returns;
        before = next_call x p.before;
        itself = p.itself;
        rest = p.rest;
      }

  pub list_each : Bytes b → (s : List ℕ) (cs : List Call) (c : Call) (ds : List Call) (rs z : List ℕ)
      → ListMade b xs s (cs ++ (c ∷ ds)) rs z → EachCall b xs s cs c ds rs z
  list_each h s cs c ds rs z x =
      let p = parted x.at_first cs c ds rs z x.called in
      let g = begun h x.freshened in
      let w = walked s g.well_formed g.kept p.before in
      let v = walked s w.well_formed w.kept p.itself in
      record {
        earlier = p.earlier;
        returned = p.returned;
        later = p.later;
        left = p.left;
        returns = p.returns;
        up_to = record {
          at_first = x.at_first;
          freshened = x.freshened;
          called = calls_append p.before p.itself;
        };
        rest = p.rest;
        before = world_of b p.between;
        after = world_of b p.left;
        worked = rw g.shows at w.worked;
        answered = one_answered v.worked;
        shown = shown v.well_formed v.kept;
      }
