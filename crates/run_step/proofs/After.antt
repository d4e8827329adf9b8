-- The bytes that an event leaves, and what they show: a start has written its ordinal too. Assumes nothing.
use mathlib.Core.Path.{◌≡◌, refl, sym, ap, ◌∙◌}
use mathlib.Core.Logic.{by_cases, ⊎_elim}
use mathlib.Core.Bool.{Bool, true, false, cond, not, ◌&&◌, true≢false, and-true}
use mathlib.Core.List.{List}
use mathlib.Core.Option
use mathlib.Core.Option.{Option, none}
use Prim.Native.Nat.{ℕ, suc, ◌+◌, ◌*◌, ◌/◌, ◌<◌, ◌≤◌}
use native.Mathlib.Decide.{ℕ_discrete, dec_lt}
use native.Mathlib.Omega.{arith}
use lib.ListN.{length, get_or}
use lib.Dec.{eqb, leb}
use borrow.Author.Tests.{eq-eqb, ne_eqb, lt-ltb, le-ltb, leb-true}
use Rattle.run_flags.specs.Flags.{flag_in}
use Rattle.run_flags.proofs.EachFlag.{same_byte}
use Rattle.plan_format.specs.Format.{u16_at, node_count, flag_count, kind_of, is_kind}
use Rattle.base.proofs.Booleans.{and_both, and_of, not_passed, either}
use Rattle.plan_check.specs.Meaning.{sign_in}
use Rattle.plan_check.proofs.Meaning.{kind_is}
use Rattle.runs.specs.Plan.{post, place_number}
use Rattle.runs.specs.Numbers.{kind_number, status_byte}
use Rattle.runs.specs.Execution.{Event, start, finish, skip, node_of, status_of, moved}
use Rattle.runs.specs.Calls.{asks, counted, numbered}
use Rattle.run_starts.specs.Starts.{node_byte, ordinal_at, ordinal_in, started_in, started_count}
use Rattle.run_starts.specs.Inner.{with_ordinal}
use Rattle.run_state.specs.State.{bad_flag, bad_byte, moves, status_in, flag_shown, ordinal_shown}
use Rattle.run_state.specs.Inner.{state_refusal}
use Rattle.run_state.proofs.Passed.{well_passed, has_room, is_well, status_of_lem, task_moves, optional_moves}
use Rattle.run_state.proofs.Passed.{moves_node}
use Rattle.run_starts.proofs.Ordinals.{ordinal_length, ordinal_before, ordinal_past, ordinal_other, ordinal_own}
use Rattle.run_starts.proofs.Numbering.{Numbering, start_numbering, same_numbering}
use Rattle.run_refusals.specs.Inner.{event_place}
use Rattle.run_refusals.proofs.Moves.{event_kind}
use Rattle.run_step.specs.Steps.{with_event, after_event}
use Rattle.run_step.proofs.Written.{next_length, byte_own, byte_other, byte_past, flag_next, no_sign, only_byte}

-- ---- an ordinal written if the event is a start
abbrev with_start : List ℕ → ℕ → Event → List ℕ → List ℕ
with_start b k (start t) s = with_ordinal b t k s
with_start b k (finish t) s = s
with_start b k (skip g) s = s

module _ (b : List ℕ) (k : ℕ) where
  start_length : (e : Event) (z : List ℕ) → length (with_start b k e z) ≡ length z
  start_length (start t) z = ordinal_length b z t k
  start_length (finish t) z = refl
  start_length (skip g) z = refl

  start_before : (e : Event) (z : List ℕ) (j : ℕ) → j < 8 + node_count b
      → get_or (with_start b k e z) j 0 ≡ get_or z j 0
  start_before (start t) z j l = ordinal_before b z t k j l
  start_before (finish t) z j l = refl
  start_before (skip g) z j l = refl

  start_past : (e : Event) (z : List ℕ) → node_of e < node_count b → 8 + 3 * node_count b ≤ length z → (j : ℕ)
      → 8 + 3 * node_count b ≤ j → get_or (with_start b k e z) j 0 ≡ get_or z j 0
  start_past (start t) z l room j h = ordinal_past b z t k l room j h
  start_past (finish t) z l room j h = refl
  start_past (skip g) z l room j h = refl

-- the ordinals, by the number of starts before
start_ordinal : (b z : List ℕ) (m : ℕ) (e : Event) → node_of e < node_count b → 8 + 3 * node_count b ≤ length z
    → (n : ℕ)
    → ordinal_in b (with_start b (suc m) e z) n ≡ numbered m (ordinal_in b z) e n
start_ordinal b z m (start t) l room n =
    by_cases (ℕ_discrete n t)
    (λ (e : n ≡ t). rw (eq-eqb n t e, e) (ordinal_own b z t (suc m) l room))
    (λ e. rw (ne_eqb n t e) (ordinal_other b z t (suc m) l room n e))
start_ordinal b z m (finish t) l room n = refl
start_ordinal b z m (skip g) l room n = refl

numbered_same : (m : ℕ) (o q : ℕ → ℕ) (e : Event) (n : ℕ) → o n ≡ q n → numbered m o e n ≡ numbered m q e n
numbered_same m o q (start t) n h = ap (λ (v : ℕ). cond (eqb n t) (suc m) v) h
numbered_same m o q (finish t) n h = h
numbered_same m o q (skip g) n h = h

numbered_other : (m : ℕ) (o : ℕ → ℕ) (e : Event) (n : ℕ) → (n ≡ node_of e → ⊥) → numbered m o e n ≡ o n
numbered_other m o (start t) n h = rw (ne_eqb n t h)
numbered_other m o (finish t) n h = refl
numbered_other m o (skip g) n h = refl

-- an event's node does not wait after it
gives_start : (e : Event) → eqb (status_byte (status_of e)) 0 ≡ false
gives_start (start t) = refl
gives_start (finish t) = refl
gives_start (skip g) = refl

-- ---- the state after an event of a node of the kind that it moves
abbrev pub Fit : List ℕ → Event → Type 0
Fit b e = is_kind b (node_of e) (kind_number (event_kind e)) ≡ true

-- its status is shown, and its new byte passes 16
fit_moves : (b : List ℕ) (e : Event) → Fit b e → moves b (node_of e) ≡ true
fit_moves b (start t) y = task_moves b t y
fit_moves b (finish t) y = task_moves b t y
fit_moves b (skip g) y = optional_moves b g y

bad_same : (b : List ℕ) (n : ℕ) (z s : List ℕ) → node_byte z n ≡ node_byte s n → bad_byte b z n ≡ bad_byte b s n
unfolding bad_byte
bad_same b n z s q = rw q

given_good : (b : List ℕ) (e : Event) (z : List ℕ) → Fit b e → node_byte z (node_of e) ≡ status_byte (status_of e)
    → bad_byte b z (node_of e) ≡ false
unfolding bad_byte
given_good b (start t) z y q = rw (y, q)
given_good b (finish t) z y q = rw (y, q)
given_good b (skip g) z y q =
    let n : is_kind b g 0 ≡ false = not_passed _ (λ x. omega (arith, (kind_is b g 0 x).1, (kind_is b g 3 y).1)) in
    rw (n, y, q)

module _ (b s : List ℕ) (ok : state_refusal b s ≡ 0) (e : Event) (fit : Fit b e) where
  abbrev next : List ℕ
  next = with_event b (place_number (event_place e)) (node_of e) (status_byte (status_of e)) s

  abbrev pub after : List ℕ
  after = with_start b (suc (started_count b s)) e next

  abbrev given : ℕ
  given = status_byte (status_of e)

  pub inside : node_of e < node_count b
  inside = (kind_is b (node_of e) (kind_number (event_kind e)) fit).0

  long : length next ≡ length s
  long = next_length b s ok (event_place e) (node_of e) given inside

  roomy : 8 + 3 * node_count b ≤ length next
  roomy = omega (arith, long, (has_room b s ok).room)

  pub after_length : length after ≡ length s
  after_length = start_length b (suc (started_count b s)) e next ∙ long

  pub after_past : (j : ℕ) → 8 + 3 * node_count b ≤ j → get_or after j 0 ≡ get_or s j 0
  after_past j l = start_past b (suc (started_count b s)) e next inside roomy j l
      ∙ byte_past b s ok (event_place e) (node_of e) given inside j (omega arith)

  -- the bytes of the flags
  pub after_flags : (i : ℕ) → i < 8 → get_or after i 0 ≡ get_or next i 0
  after_flags i l = start_before b (suc (started_count b s)) e next i (omega arith)

  -- the bytes of the nodes
  after_byte : (n : ℕ) → n < node_count b → node_byte after n ≡ node_byte next n
  unfolding node_byte
  after_byte n l = start_before b (suc (started_count b s)) e next (8 + n) (omega arith)

  after_own : node_byte after (node_of e) ≡ given
  after_own = after_byte (node_of e) inside ∙ byte_own b s ok (event_place e) (node_of e) given inside

  pub after_other : (n : ℕ) → n < node_count b → (n ≡ node_of e → ⊥) → node_byte after n ≡ node_byte s n
  after_other n l h = after_byte n l ∙ byte_other b s ok (event_place e) (node_of e) given inside n h

  -- the ordinals
  next_ordinal : (n : ℕ) → n < node_count b → ordinal_in b next n ≡ ordinal_in b s n
  unfolding ordinal_in ordinal_at u16_at
  next_ordinal n l =
      let at : (j : ℕ) → 8 + node_count b ≤ j → get_or next j 0 ≡ get_or s j 0 =
      byte_past b s ok (event_place e) (node_of e) given inside in
      rw (at (8 + node_count b + 2 * n) (omega arith), at (8 + node_count b + 2 * n + 1) (omega arith))

  after_ordinal : (n : ℕ) → n < node_count b
      → ordinal_in b after n ≡ numbered (started_count b s) (ordinal_in b s) e n
  after_ordinal n l = start_ordinal b next (started_count b s) e inside roomy n
      ∙ numbered_same (started_count b s) (ordinal_in b next) (ordinal_in b s) e n (next_ordinal n l)

  -- ---- what they show
  pub shows_status : (n : ℕ) → status_in b after n ≡ moved (status_in b s) e n
  unfolding status_in
  shows_status n =
      by_cases (ℕ_discrete n (node_of e))
      (λ (q : n ≡ node_of e). rw (eq-eqb n (node_of e) q, q, fit_moves b e fit, after_own)
      (status_of_lem (status_of e)))
      (λ q. rw (ne_eqb n (node_of e) q)
      (⊎_elim
      (λ (y : moves b n ≡ true). rw (y, after_other n (moves_node b n y) q))
      (λ (y : moves b n ≡ false). rw y)
      (either (moves b n))))

  after_flag : (f : ℕ) → f < 64 → flag_in after f
      ≡ Option.get_or (sign_in b (event_place e) (node_of e) f) (flag_in s f)
  after_flag f l = same_byte after next f (after_flags (f / 8) (omega arith))
      ∙ flag_next b s ok (event_place e) (node_of e) given inside f l

  no_literal : (f : ℕ) → flag_count b ≤ f → sign_in b (event_place e) (node_of e) f ≡ none
  no_literal f l = no_sign b s ok (event_place e) (node_of e) given inside f l

  pub shows_flag : (f : ℕ) → flag_shown after f
      ≡ Option.get_or (sign_in b (event_place e) (node_of e) f) (flag_shown s f)
  unfolding flag_shown
  shows_flag f =
      by_cases (dec_lt f 64)
      (λ (l : f < 64). rw (lt-ltb f 64 l) (after_flag f l))
      (λ l. rw (le-ltb f 64 (omega arith), no_literal f (omega (arith, (has_room b s ok).plan.fits.limits.flags))))

  pub shows_ordinal : (n : ℕ) → ordinal_shown b after n ≡ numbered (started_count b s) (ordinal_shown b s) e n
  unfolding ordinal_shown
  shows_ordinal n =
      by_cases (dec_lt n (node_count b))
      (λ (l : n < node_count b).
      let o : (z : List ℕ) → ordinal_shown b z n ≡ ordinal_in b z n = λ z. rw (lt-ltb n (node_count b) l) in
      o after ∙ after_ordinal n l
      ∙ numbered_same (started_count b s) (ordinal_in b s) (ordinal_shown b s) e n (sym (o s)))
      (λ l.
      let o : (z : List ℕ) → ordinal_shown b z n ≡ 0 = λ z. rw (le-ltb n (node_count b) (omega arith)) in
      o after ∙ sym (o s) ∙ sym (numbered_other (started_count b s) (ordinal_shown b s) e n
      (λ q. omega (arith, inside))))

  -- ---- the state stays well formed
  after_started : started_in b after (node_of e) ≡ is_kind b (node_of e) 0
  unfolding started_in
  after_started = rw (after_own, gives_start e) (and-true (is_kind b (node_of e) 0))

  after_kept : (n : ℕ) → n < node_count b → (n ≡ node_of e → ⊥) → started_in b after n ≡ started_in b s n
  unfolding started_in
  after_kept n l q = rw (after_other n l q)

  after_numbers : (n : ℕ) → n < node_count b → (n ≡ node_of e → ⊥) → ordinal_in b after n ≡ ordinal_in b s n
  after_numbers n l q = after_ordinal n l ∙ numbered_other (started_count b s) (ordinal_in b s) e n q

  after_good_flag : (f : ℕ) → f < 64 → bad_flag b after f ≡ false
  unfolding bad_flag
  after_good_flag f l = not_passed (leb (flag_count b) f && flag_in after f) (λ y.
      let a = and_both (leb (flag_count b) f) (flag_in after f) y in
      let z : flag_in after f ≡ flag_in s f = after_flag f l
      ∙ ap (λ (o : Option Bool). Option.get_or o (flag_in s f)) (no_literal f (leb-true (flag_count b) f a.0)) in
      true≢false (sym (and_of (leb (flag_count b) f) (flag_in s f) a.0 (sym z ∙ a.1))
      ∙ (is_well b s ok).flags f l))

  after_good_byte : (n : ℕ) → n < node_count b → bad_byte b after n ≡ false
  after_good_byte n l =
      by_cases (ℕ_discrete n (node_of e))
      (λ (q : n ≡ node_of e). rw q (given_good b e after fit after_own))
      (λ q. bad_same b n after s (after_other n l q) ∙ (is_well b s ok).bytes n l)

  pub still_well : {m : ℕ} → Numbering b after m → state_refusal b after ≡ 0
  still_well h =
      let r = has_room b s ok in
      well_passed b after
      (record { accepted = r.accepted; plan = r.plan; room = omega (arith, after_length, r.room) })
      (record { flags = after_good_flag; bytes = after_good_byte; numbers = h.well })

-- ---- the events of each kind
module _ (b s : List ℕ) (ok : state_refusal b s ≡ 0) where
  -- the bytes of the specification
  pub event_written : (e : Event) (y : Fit b e) → after_event b s e ≡ after b s ok e y
  event_written (start t) y = refl
  event_written (finish t) y = refl
  event_written (skip g) y = only_byte b s ok g (λ z. omega (arith, (kind_is b g 3 y).1)) (place_number post) 2

  asked_started : (n : ℕ) (v : ℕ) → is_kind b n 0 ≡ true → node_byte s n ≡ v → started_in b s n ≡ not (eqb v 0)
  unfolding started_in
  asked_started n v y q = rw (y, q)

  no_start : (n : ℕ) → kind_of b n ≡ 3 → started_in b s n ≡ is_kind b n 0
  unfolding started_in
  no_start n k = let z : is_kind b n 0 ≡ false = not_passed _ (λ x. omega (arith, (kind_is b n 0 x).1)) in rw z

  -- nothing starts where the node is started as before, with the same ordinal
  same_numbers : (e : Event) (y : Fit b e) → is_kind b (node_of e) 0 ≡ started_in b s (node_of e)
      → numbered (started_count b s) (ordinal_in b s) e (node_of e) ≡ ordinal_in b s (node_of e)
      → Numbering b (after b s ok e y) (started_count b s)
  same_numbers e y h o = same_numbering b s (after b s ok e y) (is_well b s ok).numbers
      (λ n l. by_cases (ℕ_discrete n (node_of e)) (λ (q : n ≡ node_of e). rw q (after_started b s ok e y ∙ h))
      (λ q. after_kept b s ok e y n l q))
      (λ n l. by_cases (ℕ_discrete n (node_of e))
      (λ (q : n ≡ node_of e). rw q (after_ordinal b s ok e y (node_of e) (inside b s ok e y) ∙ o))
      (λ q. after_numbers b s ok e y n l q))

  -- the node of an accepted event had the byte that the event asks for
  pub numbers : (e : Event) (y : Fit b e) → node_byte s (node_of e) ≡ status_byte (asks e)
      → Numbering b (after b s ok e y) (counted (started_count b s) e)
  numbers (start t) y q =
      let e = start t in
      let l = inside b s ok e y in
      let w = (is_well b s ok).numbers in
      start_numbering b s (after b s ok e y) w t l (after_started b s ok e y ∙ y) (after_kept b s ok e y)
      (after_numbers b s ok e y) (asked_started t 0 y q) (after_ordinal b s ok e y t l ∙ rw (eq-eqb t t refl))
  numbers (finish t) y q = same_numbers (finish t) y (y ∙ sym (asked_started t 1 y q)) refl
  numbers (skip g) y q = same_numbers (skip g) y (sym (no_start g (kind_is b g 3 y).1)) refl
