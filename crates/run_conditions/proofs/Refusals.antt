-- The tests of the conditions are refusals 21, 22 and 26. Assumes nothing.
use mathlib.Core.Path.{◌≡◌, refl, sym, ap, ◌∙◌}
use mathlib.Core.Bool.{Bool, true, false, cond, not, ◌&&◌, true≢false, false≢true}
use mathlib.Core.List.{List}
use mathlib.Core.Option.{Option, some, none, get_or}
use Prim.Native.Nat.{ℕ, ◌<◌, ◌≤◌}
use native.Mathlib.Omega.{arith}
use lib.ListN.{length, take, replicate}
use lib.Seq.{length-take-le}
use lib.Dec.{T, eqb}
use borrow.Author.Tests.{eqb-true, eqb-false, eq-eqb, ne_eqb, lt-ltb, not-true}
use Rattle.plan_codes.specs.Values.{flag_of, place_of}
use Rattle.run_flags.specs.Flags.{flag_in}
use Rattle.run_flags.specs.Inner.{all_byte}
use Rattle.run_flags.proofs.EachFlag.{in_first, all_flags}
use Rattle.plan_format.specs.Format.{cond_count, cond_node, cond_value}
use Rattle.plan_rules.specs.Rules.{refusal}
use Rattle.base.proofs.Booleans.{and_both, and_of, not_passed}
use Rattle.runs.proofs.Searches.{found_at, some_yes}
use Rattle.plan_check.specs.Meaning.{plan_of, sign_in}
use Rattle.runs.specs.Plan.{Place, pre, inc, post, place_number}
use Rattle.runs.specs.Execution.{Event, start, node_of, asserts, running}
use Rattle.runs.specs.Calls.{together, finishes, Rising, fresh, happen_all, inc_broken, PreUnmet, IncBroken}
use Rattle.runs.specs.Calls.{PostOpposed}
use Rattle.runs.specs.Tests.{same_b}
use Rattle.runs.specs.Searches.{any_below, listed}
use Rattle.runs.specs.Model.Monitor.{pre_unmet_b, inc_broken_b, post_opposed_b, applies_b}
use Rattle.runs.proofs.Calls.Reflect.{r_pre_unmet, r_inc_broken, r_post_opposed, r_applies}
use Rattle.runs.proofs.Calls.Together.{Unkept, Turned, opposed_unkept, broken_turned}
use Rattle.runs.proofs.Reflect.{Reflects, r_map, true_T, T_true, same_test}
use Rattle.run_starts.specs.Starts.{node_byte}
use Rattle.run_state.specs.State.{flag_shown, status_in, world_of}
use Rattle.run_state.specs.Inner.{state_refusal}
use Rattle.run_state.proofs.Passed.{has_room, well_formed, byte_is}
use Rattle.run_state.specs.Made.{is_of, set_at, made}
use Rattle.node_sets.specs.One.{only}
use Rattle.run_conditions.specs.Conditions.{unmet_at, broken_at}
use Rattle.run_conditions.proofs.Literals.{flag_small}
use Rattle.run_conditions.proofs.Signs.{of_set, set_of, of_is, is_of_lem, sign_at, found, made_flag}
use Rattle.run_conditions.proofs.OneByOne.{left_flag}
use Rattle.run_conditions.proofs.Conditions.{on_task}
use Rattle.node_sets.proofs.Sets.{listed_among, among_listed}

differ : (v x : Bool) → not (same_b v x) ≡ true → x ≡ not v
unfolding same_b
differ true true e = absurd (false≢true e)
differ true false e = refl
differ false true e = refl
differ false false e = absurd (false≢true e)

differs : (v x : Bool) → x ≡ not v → not (same_b v x) ≡ true
unfolding same_b
differs true x e = rw e
differs false x e = rw e

-- an event that turns a flag of value v asserts the other sign
turned : (v : Bool) (o : Option Bool) → get_or o v ≡ not v → o ≡ some (not v)
turned true none e = absurd (true≢false e)
turned false none e = absurd (false≢true e)
turned v (some u) e = ap some e

module _ (b s : List ℕ) (ok : state_refusal b s ≡ 0) where
  accepted : refusal b ≡ 0
  accepted = (has_room b s ok).accepted

  -- ---- the tests, for any set of tasks
  -- a literal of a task of M is not true
  record Unmet (k : Place) (M : ℕ → Bool) (bytes : List ℕ) : Type 0 where
    who : ℕ
    on : ℕ
    sign : Bool
    member : M who ≡ true
    small : on < 64
    has : sign_in b k who on ≡ some sign
    off : flag_in bytes on ≡ not sign

  r_unmet : (k : Place) (M : ℕ → Bool) (bytes : List ℕ)
      → Reflects (any_below (cond_count b) (unmet_at b (place_number k) M bytes)) (Unmet k M bytes)
  unfolding unmet_at
  r_unmet k M bytes = record { to = to; from = from }
    where
      to : T (any_below (cond_count b) (unmet_at b (place_number k) M bytes)) → Unmet k M bytes
      to y =
          let w = found_at (cond_count b) (unmet_at b (place_number k) M bytes) (T_true _ y) in
          let i = w.0 in
          let f = flag_of (cond_value b i) in
          let x = and_both (is_of b (place_number k) M i) (not (same_b (set_at b i) (flag_in bytes f))) w.2 in
          let m = of_set b (place_number k) M i x.0 in
          record {
            who = cond_node b i;
            on = f;
            sign = set_at b i;
            member = m.0;
            small = flag_small (cond_value b i);
            has = sign_at b accepted k (cond_node b i) i w.1 (is_of_lem b (place_number k) (cond_node b i) i refl m.1);
            off = differ (set_at b i) (flag_in bytes f) x.1;
          }

      from : Unmet k M bytes → T (any_below (cond_count b) (unmet_at b (place_number k) M bytes))
      from x =
          let w = found b accepted k x.who x.on x.sign x.has in
          let d = of_is b (place_number k) x.who w.at w.of in
          true_T _
          (some_yes (cond_count b) (unmet_at b (place_number k) M bytes) w.at w.below
          (and_of (is_of b (place_number k) M w.at)
          (not (same_b (set_at b w.at) (flag_in bytes (flag_of (cond_value b w.at)))))
          (set_of b (place_number k) M w.at (ap M d.0 ∙ x.member) d.1)
          (rw (w.flag, w.sign) (differs x.sign (flag_in bytes x.on) x.off))))

  -- a running task that is not of M has an incondition, and flags that were all as it says are not so after
  record Broken (M : ℕ → Bool) (after : Bool → List ℕ) : Type 0 where
    who : ℕ
    on : ℕ
    sign : Bool
    outside : M who ≡ false
    small : on < 64
    runs : status_in b s who ≡ running
    holds : sign_in b inc who on ≡ some sign
    off : flag_in (after sign) on ≡ not sign

  r_broken : (M : ℕ → Bool) (after : Bool → List ℕ)
      → Reflects (any_below (cond_count b) (broken_at b s (after false) (after true) M)) (Broken M after)
  unfolding broken_at
  r_broken M after = record { to = to; from = from }
    where
      either_way : (v : Bool) → cond v (after true) (after false) ≡ after v
      either_way true = refl
      either_way false = refl

      test : ℕ → Bool
      test = broken_at b s (after false) (after true) M

      to : T (any_below (cond_count b) test) → Broken M after
      to y =
          let w = found_at (cond_count b) test (T_true _ y) in
          let i = w.0 in
          let f = flag_of (cond_value b i) in
          let v = set_at b i in
          let x3 = and_both (eqb (place_of (cond_value b i)) 1 && not (M (cond_node b i))
          && eqb (node_byte s (cond_node b i)) 1)
          (not (same_b v (flag_in (cond v (after true) (after false)) f))) w.2 in
          let x2 = and_both (eqb (place_of (cond_value b i)) 1 && not (M (cond_node b i)))
          (eqb (node_byte s (cond_node b i)) 1) x3.0 in
          let x1 = and_both (eqb (place_of (cond_value b i)) 1) (not (M (cond_node b i))) x2.0 in
          let n = on_task b accepted i w.1 in
          record {
            who = cond_node b i;
            on = f;
            sign = v;
            outside = not-true _ x1.1;
            small = flag_small (cond_value b i);
            runs = (byte_is b s ok (cond_node b i) n.0 running).0 (eqb-true _ _ x2.1);
            holds = sign_at b accepted inc (cond_node b i) i w.1
                (is_of_lem b 1 (cond_node b i) i refl (eqb-true _ _ x1.0));
            off = ap (λ (x : List ℕ). flag_in x f) (sym (either_way v))
                ∙ differ v (flag_in (cond v (after true) (after false)) f) x3.1;
          }

      from : Broken M after → T (any_below (cond_count b) test)
      from x =
          let w = found b accepted inc x.who x.on x.sign x.holds in
          let i = w.at in
          let v = set_at b i in
          let f = flag_of (cond_value b i) in
          let d = of_is b 1 x.who i w.of in
          let n = on_task b accepted i w.below in
          true_T _
          (some_yes (cond_count b) test i w.below
          (and_of (eqb (place_of (cond_value b i)) 1 && not (M (cond_node b i)) && eqb (node_byte s (cond_node b i)) 1)
          (not (same_b v (flag_in (cond v (after true) (after false)) f)))
          (and_of (eqb (place_of (cond_value b i)) 1 && not (M (cond_node b i))) (eqb (node_byte s (cond_node b i)) 1)
          (and_of (eqb (place_of (cond_value b i)) 1) (not (M (cond_node b i))) (eq-eqb _ 1 d.1)
          (ap not (ap M d.0 ∙ x.outside)))
          (eq-eqb (node_byte s (cond_node b i)) 1
          ((byte_is b s ok (cond_node b i) n.0 running).1 (ap (status_in b s) d.0 ∙ x.runs))))
          (differs v (flag_in (cond v (after true) (after false)) f)
          (ap (λ (z : List ℕ). flag_in z f) (either_way v) ∙ rw (w.flag, w.sign) x.off))))

  -- the flags that were all v
  abbrev after : ℕ → (ℕ → Bool) → Bool → List ℕ
  after q M v = made b q M (replicate 8 (all_byte v))

  shown : (f : ℕ) → f < 64 → flag_shown s f ≡ flag_in (take 8 s) f
  unfolding flag_shown
  shown f l = rw (lt-ltb f 64 l) (sym (in_first s f l))

  -- ---- an event of one task
  module _ (t : ℕ) where
    -- 21
    pub unmet_is : any_below (cond_count b) (unmet_at b (place_number pre) (only t) (take 8 s))
        ≡ pre_unmet_b (plan_of b) (flag_shown s) (start t)
    unfolding plan_of
    unmet_is = same_test _ _ (r_map (to, from) (r_unmet pre (only t) (take 8 s)))
        (r_pre_unmet (plan_of b) (well_formed b s ok) (flag_shown s) (start t))
      where
        to : Unmet pre (only t) (take 8 s) → PreUnmet (plan_of b) (flag_shown s) (start t)
        to x = record {
          on = x.on;
          sign = x.sign;
          needs = rw (eqb-true _ t x.member) at x.has;
          unmet = shown x.on x.small ∙ x.off;
        }

        from : PreUnmet (plan_of b) (flag_shown s) (start t) → Unmet pre (only t) (take 8 s)
        from x =
            let w = found b accepted pre t x.on x.sign x.needs in
            let l : x.on < 64 = omega (arith, w.flag, flag_small (cond_value b w.at)) in
            record {
              who = t;
              on = x.on;
              sign = x.sign;
              member = eq-eqb t t refl;
              small = l;
              has = x.needs;
              off = sym (shown x.on l) ∙ x.unmet;
            }

    -- 22, for an event of t that asserts what t has at a place
    module _ (k : Place) (e : Event) (of : node_of e ≡ t)
        (does : (f : ℕ) → asserts (plan_of b) e f ≡ sign_in b k t f) where
      after_flag : (v : Bool) (f : ℕ) → f < 64
          → flag_in (after (place_number k) (only t) v) f ≡ get_or (asserts (plan_of b) e f) v
      after_flag v f l =
          made_flag b accepted k t (replicate 8 (all_byte v)) (omega arith) f
          ∙ ap (λ (o : Option Bool). get_or o (flag_in (replicate 8 (all_byte v)) f)) (sym (does f))
          ∙ ap (λ (x : Bool). get_or (asserts (plan_of b) e f) x) (all_flags v f l)

      pub broken_is : any_below (cond_count b) (broken_at b s (after (place_number k) (only t) false)
          (after (place_number k) (only t) true) (only t)) ≡ inc_broken_b (plan_of b) (status_in b s) e
      unfolding plan_of
      broken_is = same_test _ _ (r_map (to, from) (r_broken (only t) (after (place_number k) (only t))))
          (r_inc_broken (plan_of b) (well_formed b s ok) (status_in b s) e)
        where
          to : Broken (only t) (after (place_number k) (only t)) → IncBroken (plan_of b) (status_in b s) e
          to x = record {
            who = x.who;
            on = x.on;
            sign = x.sign;
            another = λ z. eqb-false x.who t x.outside (sym z ∙ of);
            runs = x.runs;
            holds = x.holds;
            breaks = turned x.sign (asserts (plan_of b) e x.on)
                (sym (after_flag x.sign x.on x.small) ∙ x.off);
          }

          from : IncBroken (plan_of b) (status_in b s) e → Broken (only t) (after (place_number k) (only t))
          from x =
              let w = found b accepted inc x.who x.on x.sign x.holds in
              let l : x.on < 64 = omega (arith, w.flag, flag_small (cond_value b w.at)) in
              record {
                who = x.who;
                on = x.on;
                sign = x.sign;
                outside = ne_eqb x.who t (λ z. x.another (of ∙ sym z));
                small = l;
                runs = x.runs;
                holds = x.holds;
                off = after_flag x.sign x.on l ∙ ap (λ (o : Option Bool). get_or o x.sign) x.breaks;
              }

  eight : 8 ≤ length (take 8 s)
  eight = omega (arith, length-take-le 8 s (omega (arith, (has_room b s ok).room)))

  -- ---- several finishes
  module _ (ts : List ℕ) (r : Rising ts) where
    -- 26
    pub opposed_is : any_below (cond_count b) (unmet_at b (place_number post) (listed ts)
        (made b (place_number post) (listed ts) (take 8 s))) ≡ post_opposed_b (plan_of b) ts
    unfolding plan_of world_of
    opposed_is = same_test _ _
        (r_map (
          λ x. (opposed_unkept (plan_of b) (well_formed b s ok) (world_of b s) ts).1 (to x),
          λ x. from ((opposed_unkept (plan_of b) (well_formed b s ok) (world_of b s) ts).0 x),
        ) (r_unmet post (listed ts) _))
        (r_post_opposed (plan_of b) (well_formed b s ok) ts)
      where
        to : Unmet post (listed ts) (made b (place_number post) (listed ts) (take 8 s))
            → Unkept (plan_of b) (world_of b s) ts
        to x = record {
          who = x.who;
          on = x.on;
          sign = x.sign;
          listed = listed_among ts x.who x.member;
          leaves = x.has;
          turned = left_flag b accepted ts r (world_of b s) (take 8 s) (eight) x.on (shown x.on x.small)
              ∙ x.off;
        }

        from : Unkept (plan_of b) (world_of b s) ts
            → Unmet post (listed ts) (made b (place_number post) (listed ts) (take 8 s))
        from x =
            let w = found b accepted post x.who x.on x.sign x.leaves in
            let l : x.on < 64 = omega (arith, w.flag, flag_small (cond_value b w.at)) in
            record {
              who = x.who;
              on = x.on;
              sign = x.sign;
              member = among_listed ts x.who x.listed;
              small = l;
              has = x.leaves;
              off = sym (left_flag b accepted ts r (world_of b s) (take 8 s) eight x.on (shown x.on l))
                  ∙ x.turned;
            }

    -- 22, where 26 does not apply
    pub broken_unless : post_opposed_b (plan_of b) ts ≡ false
        → any_below (cond_count b) (broken_at b s (after (place_number post) (listed ts) false)
        (after (place_number post) (listed ts) true) (listed ts))
        ≡ applies_b (plan_of b) (plan_of b) (world_of b s) (together ts) inc_broken
    unfolding plan_of world_of
    broken_unless n = same_test _ _
        (r_map (
          λ x. (broken_turned (plan_of b) (well_formed b s ok) (world_of b s) ts unopposed).1 (to x),
          λ x. from ((broken_turned (plan_of b) (well_formed b s ok) (world_of b s) ts unopposed).0 x),
        )
        (r_broken (listed ts) (after (place_number post) (listed ts))))
        (r_applies (plan_of b) (plan_of b) (well_formed b s ok) (world_of b s) (together ts) inc_broken)
      where
        unopposed : ¬ PostOpposed (plan_of b) ts
        unopposed x = true≢false
            (sym (T_true _ ((r_post_opposed (plan_of b) (well_formed b s ok) ts).from x)) ∙ n)

        same : (v : Bool) (f : ℕ) → f < 64 → (happen_all (plan_of b) (fresh (λ x. v)) (finishes ts)).flag f
            ≡ flag_in (after (place_number post) (listed ts) v) f
        same v f l = left_flag b accepted ts r (fresh (λ x. v)) (replicate 8 (all_byte v)) (omega arith) f
            (sym (all_flags v f l))

        to : Broken (listed ts) (after (place_number post) (listed ts)) → Turned (plan_of b) (world_of b s) ts
        to x = record {
          who = x.who;
          on = x.on;
          sign = x.sign;
          unlisted = λ i. true≢false (sym (among_listed ts x.who i) ∙ x.outside);
          runs = x.runs;
          holds = x.holds;
          turned = same x.sign x.on x.small ∙ x.off;
        }

        from : Turned (plan_of b) (world_of b s) ts → Broken (listed ts) (after (place_number post) (listed ts))
        from x =
            let w = found b accepted inc x.who x.on x.sign x.holds in
            let l : x.on < 64 = omega (arith, w.flag, flag_small (cond_value b w.at)) in
            record {
              who = x.who;
              on = x.on;
              sign = x.sign;
              outside = not_passed _ (λ y. x.unlisted (listed_among ts x.who y));
              small = l;
              runs = x.runs;
              holds = x.holds;
              off = sym (same x.sign x.on l) ∙ x.turned;
            }
