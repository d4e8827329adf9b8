-- What the search answers, from the words that it is given. Assumes nothing.
use mathlib.Core.Path.{◌≡◌, refl, sym, ap, ◌∙◌}
use mathlib.Core.Logic.{◌⊎◌, inl, ◌↔◌}
use mathlib.Core.Bool.{Bool, true, false, not}
use mathlib.Core.Option.{Option, none}
use mathlib.Core.List.Memᴰ.{not-nil as among_none}
use mathlib.Core.List.{List, [], Memᴰ as Among}
use Prim.Native.Nat.{ℕ, ◌+◌, ◌-◌, ◌*◌, ◌^◌, ◌%◌, ◌≤◌, ◌<◌}
use native.Mathlib.Omega.{arith}
use lib.Bits.{bit_or, or_shifted}
use lib.Pow.{pow_mono, shl_exact}
use lib.ListN.{get_or}
use Rattle.std.specs.declared.option.Option as answer
use Rattle.std.specs.declared.option.Option.TheVariants.{Some, None}
use Rattle.std.specs.declared.result.Result.TheVariants.{Ok, Err}
use Rattle.answers.specs.declared.Refusal.{Refusal}
use Rattle.answers.specs.declared.Refusal.TheVariants.{NoSequence}
use Rattle.answers.specs.Refusals.{number}
use Rattle.answers.proofs.Refusals.{some_number, not_ok}
use Rattle.base.specs.Words.{ones, Says}
use Rattle.base.proofs.Bits.{bit_none}
use Rattle.base.proofs.Count.{count_same}
use Rattle.base.proofs.First.{else_none, else_some}
use Rattle.base.proofs.Says.{says_map, says_none, says_not}
use Rattle.runs.specs.Plan.{Plan, Child, Before}
use Rattle.runs.specs.Summary.{MayClobber}
use Rattle.plan_rules.specs.Rules.{refusal}
use Rattle.plan_check.proofs.Accepted.{clean}
use Rattle.plan_check.specs.Meaning.{plan_of, start_of}
use Rattle.plan_check.proofs.Meaning.{meaning_accepted, means_well_formed}
use Rattle.plan_check.proofs.Nodes.{node_is}
use Rattle.runs.proofs.Reflect.{clash}
use Rattle.tables.specs.declared.Segment.{Segment}
use Rattle.tables.specs.Represents.{before_code, code}
use Rattle.marks_row.specs.Columns.{may_clobber}
use Rattle.marks_row.proofs.Nots.{not_is}
use Rattle.marks_words.specs.Words.{StartWord}
use Rattle.sequences.specs.Sequences.{Sought}
use Rattle.sequences.specs.Model.{Calm, MayBeTrue}
use Rattle.sequences.specs.Word.{packed, sequence_word, sequence_in}
use Rattle.sequences.proofs.Cases.{sought_23, sought_24, sought_found, sought_only, sought_sized, sought_children}
use Rattle.sequences.proofs.Ranks.{count_all}
use Rattle.sequences.proofs.Reflect.{true_start, calm_on_flags}
use Rattle.sequences.proofs.Search.{Searched, first_clear, calm_searched, restless_searched}
use Rattle.sequences.proofs.Search.{searched_sought, sought}
use Rattle.sequences.proofs.Word.{read_back}
use Rattle.sequence_search.specs.declared.Reach.{Reach}
use Rattle.sequence_search.specs.Search.{count, child_at, InRange, Tabled, flags_for, ComeTo}
use Rattle.sequence_search.specs.Search.{Carries, nothing, nodes, Finds}
use Rattle.sequence_search.proofs.Places.{place_in, child_small, is_child_lem, place_of_lem}
use Rattle.sequence.specs.Sequence.{Finding, sequence_answer, Exact, Sequenced}
use Rattle.sequence.specs.Inner.{MasksOf, CalmIn, Below, Answers, AnswersOf}
use Rattle.sequence.proofs.Counted.{passes_23}

-- a refusal is no word
pub refused_exact : (e : Refusal) → Exact (Err e)
refused_exact e w q = absurd (not_ok q)

abbrev word : Finding → ℕ
word (Err e) = 0
word (Ok w) = w

-- where a search begins
abbrev pub outset : ℕ → ℕ → Reach
outset n start = record { left = n; seen = 0; set = start; clear = ones - start }

module _ {p : Plan} {kids order rows : List ℕ} {s : Segment} (g : InRange kids s) (b : Below p kids s order rows) where
  -- 24 from the search, and where a child may clobber
  none_found : {F : ℕ → Bool} → Searched p b.well_formed F none → Answers p F (Err NoSequence)
  none_found {F} x = record {
    sought = searched_sought p b.well_formed F (passes_23 b.well_formed b.root b.root_all_of g.few) x;
    exact = refused_exact NoSequence;
  }

  is_calm : {r : Bool} → CalmIn rows kids s r → (r ≡ true) ↔ Calm p
  is_calm {r} c = (to, from)
    where
      to : r ≡ true → Calm p
      to e = calm_on_flags p b.well_formed (λ f. false) b.root_all_of at
        where
          at : (c : ℕ) → Child p 0 c → (f : ℕ) (v : Bool) → f < p.conditions.flags → ¬ MayClobber p f v c
          at d h f v l x =
              let (i, m, q) = place_of_lem b.root h in
              let lf : f < 64 = omega (arith, l, b.flags) in
              c.tells.0 e (s.start + i) (place_in m) v f lf
              (rw q (((b.right d h).says (may_clobber v) f lf).from x))

      from : Calm p → r ≡ true
      from k = c.tells.1 (λ i q v f l x.
          let h : Child p 0 (get_or kids i 0) =
          (b.root.children.child _).1 (record { at = i; position = q; is = refl }) in
          k _ h f v (((b.right _ h).says (may_clobber v) f l).to x))

  pub restless : {F : ℕ → Bool} {r : Bool} → CalmIn rows kids s r → r ≡ false → Answers p F (Err NoSequence)
  restless {F} c e = none_found (restless_searched p b.well_formed F b.root_all_of
      (λ k. let x = (is_calm c).1 k in clash cc))

  module _ {F : ℕ → Bool} {start : ℕ} (st : StartWord F start) (wide : start < 2 ^ 64) {masks : List ℕ}
      (ms : MasksOf order kids s masks) where
    tabled : Tabled p rows kids s masks
    tabled = record {
      well_formed = b.well_formed;
      flags = b.flags;
      root = b.root;
      right = b.right;
      before = λ i j l. says_map (
        λ x. (x.0, (stands j i x.0 l).0 x.1),
        λ x. (x.0, (stands j i x.0 l).1 x.1),
      ) ((ms.each i l).says j);
    }
      where
        stands : (j i : ℕ) → j < count s → i < count s
            → (code order (child_at kids s j) (child_at kids s i) ≡ before_code)
            ↔ Before p (child_at kids s j) (child_at kids s i)
        stands j i m l = b.orders.before (child_at kids s j) (child_at kids s i) (is_child_lem b.root m).node
            (is_child_lem b.root l).node

    begins : ComeTo p F kids s [] (outset (count s) start)
    begins = record {
      places = λ i l. says_none refl (λ x. among_none x);
      left = count_same (count s) _ (λ i. true) (λ i l. ap not (bit_none i)) ∙ count_all (count s);
      may_be = may_be;
    }
      where
        opposite : (v : Bool) → (¬ (v ≡ true)) ↔ (v ≡ false)
        opposite true = (λ k. absurd (k refl), λ e. clash cc)
        opposite false = (λ k. refl, λ e q. clash cc)

        may_be : (v : Bool) (f : ℕ) → f < 64 → Says (flags_for (outset (count s) start) v) f (MayBeTrue p F f v [])
        may_be true f l = says_map (from_start true) (st.says f l)
          where
            from_start : (v : Bool) → (F f ≡ v) ↔ MayBeTrue p F f v []
            from_start v = ((true_start p b.well_formed F).1, (true_start p b.well_formed F).0)
        may_be false f l = says_map (to, from) (says_not l (not_is start wide) (st.says f l))
          where
            to : ¬ (F f ≡ true) → MayBeTrue p F f false []
            to k = (true_start p b.well_formed F).1 ((opposite (F f)).0 k)

            from : MayBeTrue p F f false [] → ¬ (F f ≡ true)
            from x = (opposite (F f)).1 ((true_start p b.well_formed F).0 x)

    module _ {r : Bool} (c : CalmIn rows kids s r) (passed : r ≡ true) {z : answer.Option ℕ}
        (fi : Finds rows kids s masks (outset (count s) start) z) where
      found_first : (o : Option (List ℕ)) × Searched p b.well_formed F o × Carries (count s) z o
      found_first = let (o, fr, h) = fi p F [] tabled begins in
          (o, calm_searched p b.well_formed F b.root_all_of ((is_calm c).0 passed) fr, h)

      pub unfound : z ≡ None → Answers p F (Err NoSequence)
      unfound e = let (o, x, h) = found_first in at x h
        where
          at : {o : Option (List ℕ)} → Searched p b.well_formed F o → Carries (count s) z o
              → Answers p F (Err NoSequence)
          at x (nothing q) = none_found x
          at x (nodes q l m) = clash cc

      -- the word: the number of nodes above the nodes
      pub found : {w x : ℕ} → z ≡ Some x → w ≡ bit_or ((count s * 2 ^ 56) % 2 ^ 64) x → Answers p F (Ok w)
      found {w} {x} e q = let (o, y, h) = found_first in at y h
        where
          at : {o : Option (List ℕ)} → Searched p b.well_formed F o → Carries (count s) z o
              → Answers p F (Ok w)
          at y (nothing k) = clash cc
          at (first_clear {xs = xs} fc) (nodes k l m) = record {
            sought = rw back (searched_sought p b.well_formed F
                (passes_23 b.well_formed b.root b.root_all_of g.few) (first_clear fc));
            exact = exact;
          }
            where
              rest_is : x ≡ packed xs
              rest_is = let k : Some x ≡ Some (packed xs) = cc in cc

              small : packed xs < 2 ^ 56
              small =
                  let le : 2 ^ (8 * count s) ≤ 2 ^ 56 = pow_mono {i = 8 * count s} {j = 56} (omega (arith, g.few)) in
                  omega (arith, m, le)

              is_word : w ≡ sequence_word xs
              is_word = q ∙ ap (λ (v : ℕ). bit_or ((count s * 2 ^ 56) % 2 ^ 64) v) rest_is
                  ∙ ap (λ (v : ℕ). bit_or v (packed xs))
                  (shl_exact {a = count s} 3 56 64 (omega (arith, g.few)) (omega arith))
                  ∙ or_shifted (count s) 56 (packed xs) small
                  ∙ ap (λ (n : ℕ). n * 2 ^ 56 + packed xs) (sym l)

              bytes : (c : ℕ) → Among c xs → c < 256
              bytes c i =
                  let (j, lj, r) = place_of_lem b.root (fc.serial.sequence.child c i) in
                  omega (arith, child_small g lj, r)

              back : sequence_in w ≡ xs
              back = ap sequence_in is_word ∙ read_back xs bytes (omega (arith, l, g.few))

              exact : Exact (Ok w)
              exact v r = ap word (sym r) ∙ is_word ∙ ap sequence_word (sym back)
                  ∙ ap (λ (u : ℕ). sequence_word (sequence_in u)) (ap word r)

-- ---- the whole answer
-- it is the one computed, since there is no other
refusal_is : (b : List ℕ) {r : ℕ} → r ≡ refusal b → (r ≡ 0 → ⊥) → inl r ≡ sequence_answer b
unfolding sequence_answer
refusal_is b e k = ap inl e ∙ else_some (refusal b) _ (λ z. k (e ∙ z))

sought_is : (b : List ℕ) {a : ℕ ⊎ List ℕ} → refusal b ≡ 0 → Sought (plan_of b) (start_of b) a → a ≡ sequence_answer b
unfolding sequence_answer
sought_is b ok x = sought_only x (sought (plan_of b) (means_well_formed b ok) (start_of b)) ∙ else_none (refusal b) _ ok

pub answered_refused : (b : List ℕ) {r : Refusal} → number r ≡ refusal b → Sequenced b (Err r)
answered_refused b {r} e = record {
  returns = refusal_is b e k;
  sought = record {
    refused = λ n. ap inl e;
    sought = λ ok. absurd (k (e ∙ ok));
    refused_23 = λ ok. absurd (k (e ∙ ok));
    refused_24 = λ ok. absurd (k (e ∙ ok));
    found = λ ok. absurd (k (e ∙ ok));
    sized = λ xs q. clash cc;
    nodes = λ xs q. clash cc;
  };
  exact = refused_exact r;
}
  where
    k : number r ≡ 0 → ⊥
    k z = some_number r z

pub answered : (b : List ℕ) {r : Finding} → refusal b ≡ 0 → AnswersOf b r → Sequenced b r
answered b ok a = record {
  returns = sought_is b ok a.sought;
  sought = record {
    refused = λ n. absurd (n ok);
    sought = λ ok. a.sought;
    refused_23 = λ ok. sought_23 a.sought;
    refused_24 = λ ok. sought_24 a.sought;
    found = λ ok. sought_found a.sought;
    sized = sought_sized (meaning_accepted b (clean b ok)) a.sought;
    nodes = λ xs e c i. node_is b c (sought_children a.sought xs e c i).node;
  };
  exact = a.exact;
}
