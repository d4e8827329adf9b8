-- What the bytes of events and of calls show: the states that 01 works out. Assumes nothing.
use mathlib.Core.Path.{◌≡◌, refl, sym, ap, ◌∙◌, fun_ext}
use mathlib.Core.Logic.{by_cases}
use mathlib.Core.Bool.{Bool, true, false, true≢false}
use mathlib.Core.List.Memᴰ.{head as here}
use mathlib.Core.List.Memᴰ.{tail as there}
use mathlib.Core.List.{List, [], ◌∷◌, Memᴰ as Among}
use mathlib.Core.Option
use mathlib.Core.Option.{Option, some, none}
use Prim.Native.Nat.{ℕ, ◌+◌, ◌*◌, ◌≤◌, ◌<◌}
use lib.ListN.{length, get_or}
use native.Mathlib.Decide.{ℕ_discrete}
use Rattle.plan_format.specs.Format.{node_count, is_kind}
use Rattle.plan_check.specs.Meaning.{plan_of}
use Rattle.plan_check.proofs.Meaning.{kind_is}
use Rattle.runs.specs.Execution.{Event, finish, History, node_of, moved, asserts}
use Rattle.runs.specs.Calls.{Call, one, together, finishes, events, Rising, asks, counted, numbered}
use Rattle.runs.specs.Numbers.{status_byte}
use Rattle.runs.specs.Calls.{Refusal, World, happen, happen_all}
use Rattle.runs.specs.Model.Monitor.{returned, refusal_of, step, refusal_number, settle}
use Rattle.runs.proofs.Calls.First.{number_inj}
use Rattle.runs.proofs.Calls.Listed.{rising_once, rising_tail}
use Rattle.run_starts.specs.Starts.{node_byte, started_count}
use Rattle.run_state.specs.State.{status_in, flag_shown, ordinal_shown, world_of, state_refusal_under}
use Rattle.run_state.specs.Inner.{state_refusal}
use Rattle.run_state.proofs.Passed.{passed, list_passed, absent_byte, under_passed}
use Rattle.plan_blocked.specs.Blocked.{plan_under}
use Rattle.runs.specs.Searches.{listed}
use Rattle.runs.specs.Model.Blocked.{stands}
use Rattle.run_starts.proofs.Numbering.{Numbering}
use Rattle.node_sets.specs.Sets.{Each}
use Rattle.run_refusals.specs.Events.{call_refusal}
use Rattle.run_refusals.proofs.OfKind.{event_does}
use Rattle.run_refusals.proofs.Answers.{accepted_kind, accepted_byte, accepted_stands, running_stands}
use Rattle.run_refusals.proofs.Together.{accepted_rises, accepted_tasks, accepted_running}
use Rattle.run_step.specs.Steps.{after_event, after_all}
use Rattle.run_monitor.specs.Model.{call_state}
use Rattle.run_monitor.proofs.Outcomes.{refused_16, refused_22, accepted}
use Rattle.run_step.proofs.After.{Fit, after, shows_status, shows_flag, shows_ordinal, still_well, numbers, after_other}
use Rattle.run_step.proofs.After.{event_written, after_length, after_past}

-- the bytes z pass all checks, and show the states a
pub record Showing (b z : List ℕ) (a : World) : Type 0 where
  pub well_formed : state_refusal b z ≡ 0
  pub shows : world_of b z ≡ a

-- ---- an event of a node of the kind that it moves, which has the byte that it asks for
module _ (b s : List ℕ) (ok : state_refusal b s ≡ 0) (e : Event) (fit : Fit b e)
    (asked : node_byte s (node_of e) ≡ status_byte (asks e)) where
  abbrev next : List ℕ
  next = after b s ok e fit

  ordinals : Numbering b next (counted (started_count b s) e)
  ordinals = numbers b s ok e fit asked

  same : world_of b next ≡ happen (plan_of b) (world_of b s) e
  unfolding world_of
  same =
      let fs : status_in b next ≡ moved (status_in b s) e = fun_ext (shows_status b s ok e fit) in
      let ff : flag_shown next ≡ (λ f. Option.get_or (asserts (plan_of b) e f) (flag_shown s f)) =
      fun_ext (λ f. shows_flag b s ok e fit f
      ∙ ap (λ (o : Option Bool). Option.get_or o (flag_shown s f)) (sym (event_does b s ok e fit f))) in
      let fo : ordinal_shown b next ≡ numbered (started_count b s) (ordinal_shown b s) e =
      fun_ext (shows_ordinal b s ok e fit) in
      cc (fs, ff, ordinals.count, fo)

  happened : Showing b (after_event b s e) (happen (plan_of b) (world_of b s) e)
  happened =
      let q = event_written b s ok e fit in
      record {
        well_formed = ap (λ (y : List ℕ). state_refusal b y) q ∙ still_well b s ok e fit ordinals;
        shows = ap (world_of b) q ∙ same;
      }

-- ---- several such events, each after those before it, of nodes that stand
pub data Going (b xs s : List ℕ) : History → Type 0 where
  nothing : Going b xs s []
  going : {e : Event} {h : History} → Going b xs s h → Fit b e → stands (plan_of b) (listed xs) (node_of e) ≡ true
      → node_byte (after_all b s h) (node_of e) ≡ status_byte (asks e) → Going b xs s (e ∷ h)

-- the bytes z pass all checks, with the list too, and show the states a
pub record ShowingUnder (b xs z : List ℕ) (a : World) : Type 0 where
  pub well_formed : state_refusal_under b xs z ≡ 0
  pub shows : world_of b z ≡ a

module _ (b xs s : List ℕ) (under : state_refusal_under b xs s ≡ 0) where
  abbrev ok : state_refusal b s ≡ 0
  ok = passed b xs s under

  all_happened : {h : History} → Going b xs s h → Showing b (after_all b s h) (happen_all (plan_of b) (world_of b s) h)
  all_happened nothing = record { well_formed = ok; shows = refl }
  all_happened (going {e = e} {h = h} g fit st asked) =
      let w = all_happened g in
      let x = happened b (after_all b s h) w.well_formed e fit asked in
      record { well_formed = x.well_formed; shows = x.shows ∙ ap (λ (a : World). happen (plan_of b) a e) w.shows }

  -- what does not stand waits as before
  absent_stay : {h : History} → Going b xs s h → (n : ℕ) → n < node_count b → stands (plan_of b) (listed xs) n ≡ false
      → node_byte (after_all b s h) n ≡ 0
  absent_stay nothing n l y = absent_byte b xs s under n l y
  absent_stay (going {e = e} {h = h} g fit st asked) n l y =
      let z = (all_happened g).well_formed in
      ap (λ (x : List ℕ). node_byte x n) (event_written b _ z e fit)
      ∙ after_other b _ z e fit n l (λ q. true≢false (sym st ∙ ap (stands (plan_of b) (listed xs)) (sym q) ∙ y))
      ∙ absent_stay g n l y

  pub goes_under : {h : History} → Going b xs s h
      → ShowingUnder b xs (after_all b s h) (happen_all (plan_of b) (world_of b s) h)
  goes_under {h} g = record {
    well_formed =
        under_passed b xs (after_all b s h) (list_passed b xs s under) (all_happened g).well_formed (absent_stay g);
    shows = (all_happened g).shows;
  }

  -- the finishes of a rising list of running tasks; the bytes of other nodes stay
  finishes_go : (ts : List ℕ) → Rising ts → Each ts (λ t. is_kind b t 0 ≡ true) → Each ts (λ t. node_byte s t ≡ 1)
      → Going b xs s (finishes ts)
      × ((n : ℕ) → n < node_count b → ¬ Among n ts → node_byte (after_all b s (finishes ts)) n ≡ node_byte s n)
  finishes_go [] r k y = (nothing, λ n l i. refl)
  finishes_go (t ∷ ts) r k y =
      let (g, stays) = finishes_go ts (rising_tail r) (λ x i. k x (there i)) (λ x i. y x (there i)) in
      let z = (all_happened g).well_formed in
      let fit : Fit b (finish t) = k t (here refl) in
      let l = (kind_is b t 0 fit).0 in (
        going g fit (running_stands b xs s under t l (y t (here refl))) (stays t l (rising_once r) ∙ y t (here refl)),
        λ n l i. ap (λ (x : List ℕ). node_byte x n) (event_written b _ z (finish t) fit)
            ∙ after_other b _ z (finish t) fit n l (λ q. i (here q)) ∙ stays n l (λ j. i (there j)),
      )

  -- the events of an accepted call
  pub call_goes : (c : Call) → call_refusal b xs s c ≡ 0 → Going b xs s (events c)
  call_goes (one e) z = going nothing (accepted_kind b xs s under e z) (accepted_stands b xs s under e z)
      (accepted_byte b xs s under e z)
  call_goes (together ts) z = (finishes_go ts (accepted_rises b xs s under ts z) (accepted_tasks b xs s under ts z)
      (accepted_running b xs s under ts z)).0

-- ---- nothing is written past the 8 + 3N bytes that show the states
pub record RestKept (b s z : List ℕ) : Type 0 where
  pub as_long : length z ≡ length s
  pub later : (k : ℕ) → 8 + 3 * node_count b ≤ k → get_or z k 0 ≡ get_or s k 0

events_keep : (b xs s : List ℕ) → state_refusal_under b xs s ≡ 0 → {h : History} → Going b xs s h
    → RestKept b s (after_all b s h)
events_keep b xs s under nothing = record { as_long = refl; later = λ k l. refl }
events_keep b xs s under (going {e = e} {h = h} g fit st asked) =
    let ok = passed b xs (after_all b s h) (goes_under b xs s under g).well_formed in
    let w = events_keep b xs s under g in
    rw (event_written b (after_all b s h) ok e fit)
    (record {
      as_long = after_length b (after_all b s h) ok e fit ∙ w.as_long;
      later = λ k l. after_past b (after_all b s h) ok e fit k l ∙ w.later k l;
    })

pub call_keeps : (b xs s : List ℕ) (c : Call) → RestKept b s (call_state b xs s c)
call_keeps b xs s c =
    by_cases (ℕ_discrete (state_refusal_under b xs s) 0)
    (λ ok.
    by_cases (ℕ_discrete (call_refusal b xs s c) 0)
    (λ z. rw (sym (accepted b xs s c ok z).1) (events_keep b xs s ok (call_goes b xs s ok c z)))
    (λ n. same (refused_22 b xs s c ok n).1))
    (λ n. same (refused_16 b xs s c n).1)
  where
    same : {z : List ℕ} → s ≡ z → RestKept b s z
    same e = rw (sym e) (record { as_long = refl; later = λ k l. refl })

-- events leave the flags that they leave in the whole plan
happen_left : (b xs : List ℕ) (a : World) (h : History)
    → happen_all (plan_under b xs) a h ≡ happen_all (plan_of b) a h
happen_left b xs a [] = refl
happen_left b xs a (e ∷ h) = ap (λ (w : World). happen (plan_of b) w e) (happen_left b xs a h)

-- ---- after a call, accepted or refused, the state passes all checks and shows the states that 01 works out
settled : (o : Option Refusal) (old new : World) → (refusal_number o ≡ 0 → ⊥) → settle o old new ≡ old
settled none old new h = absurd (h refl)
settled (some r) old new h = refl

module _ (b xs s : List ℕ) (under : state_refusal_under b xs s ≡ 0) (c : Call) where
  abbrev Stepped : Type 0
  Stepped = ShowingUnder b xs (call_state b xs s c) (step (plan_of b) (plan_under b xs) (world_of b s) c)

  moves : call_refusal b xs s c ≡ 0 → Stepped
  unfolding returned step
  moves z =
      let q = sym (accepted b xs s c under z).1 in
      let w = goes_under b xs s under (call_goes b xs s under c z) in
      let n : refusal_of (plan_of b) (plan_under b xs) (world_of b s) c ≡ none = number_inj {x = none} z in
      record {
        well_formed = ap (state_refusal_under b xs) q ∙ w.well_formed;
        shows = ap (world_of b) q ∙ w.shows ∙ rw (n, happen_left b xs (world_of b s) (events c));
      }

  refused : (call_refusal b xs s c ≡ 0 → ⊥) → Stepped
  unfolding step returned
  refused n =
      let q = (refused_22 b xs s c under n).1 in
      record {
        well_formed = ap (state_refusal_under b xs) (sym q) ∙ under;
        shows = ap (world_of b) (sym q)
            ∙ sym (settled (refusal_of (plan_of b) (plan_under b xs) (world_of b s) c) (world_of b s) _ n);
      }

  pub call_steps : Stepped
  call_steps = by_cases (ℕ_discrete (call_refusal b xs s c) 0) (λ z. moves z) (λ n. refused n)
