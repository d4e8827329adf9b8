-- The search finds the first sequence under which the plan is CLEAR, or there is none.
use mathlib.Core.List.{Lexᴰ}
use Rattle.runs.proofs.Base.{◌≡◌, refl, ◌≢◌, ◌⊎◌, inl, inr, ◌↔◌, Bool, true, false, Option, none, some, List}
use Rattle.runs.proofs.Base.{[], ◌∷◌, Among, here, there, ℕ, zero, suc, ◌<◌, arith}
use Rattle.runs.proofs.Base.{ℕ_discrete}
use Rattle.runs.specs.Tests.{negate}
use Rattle.base.specs.Count.{count_below}
use Rattle.runs.specs.Searches.{listed}
use Rattle.runs.specs.Plan.{all_of, Plan, Child, Before}
use Rattle.runs.specs.WellFormed.{WellFormed}
use Rattle.runs.specs.Model.Trees.{child_b, every_child_b}
use Rattle.sequences.specs.Sequences.{Refused23, not_all_of, too_many, SerialClear, FirstClear, Sought}
use Rattle.sequences.specs.Sequences.{refused_23, refused_24, found}
use Rattle.sequences.specs.Model.{AllSeen, MayFollow, Rest, all_seen, then, DeadEnd, FirstRest, first_rest}
use Rattle.sequences.specs.Model.{no_rest}
use Rattle.sequences.specs.Model.{Calm, MayBeTrue, Safe, start_b, next_b, calm_b, unless, prefixed, or_next}
use Rattle.sequences.specs.Model.{first_below, may_follow_b, rest_in}
use Rattle.sequences.specs.Model.{first_sequence, child_count, refused23_b, found_or24, unless23, sequence_of}
use Rattle.runs.proofs.Reflect.{clash, Reflects, decided, force, r_map, r_guarded, r_both, r_either, r_implies}
use Rattle.runs.proofs.Reflect.{r_negate, r_lt}
use Rattle.runs.proofs.Plan.Chains.{before_child}
use Rattle.runs.proofs.Plan.Reflect.{r_kind, r_child, r_before, r_every_child}
use Rattle.runs.proofs.Calls.Listed.{r_listed}
use Rattle.sequences.proofs.Ranks.{count_lt, count_le, count_all}
use Rattle.sequences.proofs.Counted.{passing, passing_below, passing_length, passing_once, few}
use Rattle.sequences.proofs.Prefixes.{sequence_rest}
use Rattle.sequences.proofs.Serial.{serial_clears}
use Rattle.sequences.proofs.Scan.{serial_clear}
use Rattle.sequences.proofs.Reflect.{r_start, r_next, r_safe, r_calm}

-- the lowest number below n that gives a list
data Lowest (g : ℕ → Option (List ℕ)) (n : ℕ) : Option (List ℕ) → Type 0 where
  at : {xs : List ℕ} (c : ℕ) → c < n → g c ≡ some xs → ((b : ℕ) → b < c → g b ≡ none) → Lowest g n (some xs)
  nowhere : ((b : ℕ) → b < n → g b ≡ none) → Lowest g n none

lowest : (g : ℕ → Option (List ℕ)) (n : ℕ) → Lowest g n (first_below n g)
unfolding first_below or_next
lowest g zero = nowhere (λ b l. absurd (omega arith))
lowest g (suc n) = go (first_below n g) (lowest g n) (g n) refl
  where
    go : (o : Option (List ℕ)) → Lowest g n o → (x : Option (List ℕ)) → g n ≡ x
        → Lowest g (suc n) (or_next o (λ u. g n))
    go (some xs) (at c l e k) x q = at c (omega arith) e k
    go none (nowhere k) (some xs) q = rw q (at n (omega arith) q k)
    go none (nowhere k) none q = rw q (nowhere (λ b l. below b l (ℕ_discrete b n)))
      where
        below : (b : ℕ) → b < suc n → Dec (b ≡ n) → g b ≡ none
        below b l (yes e) = rw e q
        below b l (no ne) = k b (omega arith)

precedes_nothing : {xs ys : List ℕ} → Lexᴰ ◌<◌ xs ys → ys ≡ [] → ⊥
precedes_nothing Lexᴰ.nil e = clash cc
precedes_nothing (Lexᴰ.rel l) e = clash cc
precedes_nothing (Lexᴰ.cons d q) e = clash cc

-- A search tries the children one after another. What is found behind one of them is told of the rests that begin with
-- it; code that searches can be proved by these laws, in any shape.
module _ {p : Plan} {F : ℕ → Bool} where
  rest_all_seen : {seen : List ℕ} → Rest p F seen [] → AllSeen p F seen
  rest_all_seen (all_seen g) = g

  rest_follows : {seen ys : List ℕ} {c : ℕ} → Rest p F seen (c ∷ ys) → MayFollow p F seen c × Rest p F (c ∷ seen) ys
  rest_follows (then m r) = (m, r)

  -- all children are seen: the rest is empty
  pub ends_here : {seen : List ℕ} → AllSeen p F seen → FirstRest p F seen (some [])
  ends_here g = first_rest (all_seen g) (λ ys x q. precedes_nothing q refl)

  -- a child that may not follow, or behind which there is no rest
  pub not_next : {seen : List ℕ} {c : ℕ} → ¬ MayFollow p F seen c → DeadEnd p F seen c
  not_next k ys r = k (rest_follows r).0

  pub nothing_behind : {seen : List ℕ} {c : ℕ} → FirstRest p F (c ∷ seen) none → DeadEnd p F seen c
  nothing_behind (no_rest n) ys r = n ys (rest_follows r).1

  -- the lowest child with a rest behind it
  pub goes_on : {seen xs : List ℕ} {c : ℕ} → ¬ AllSeen p F seen → ((b : ℕ) → Child p 0 b → b < c → DeadEnd p F seen b)
      → MayFollow p F seen c → FirstRest p F (c ∷ seen) (some xs) → FirstRest p F seen (some (c ∷ xs))
  goes_on {seen} {xs} {c} more dead m (first_rest r k) = first_rest (then m r) earlier
    where
      earlier : (ys : List ℕ) → Rest p F seen ys → ¬ Lexᴰ ◌<◌ ys (c ∷ xs)
      earlier ys x Lexᴰ.nil = more (rest_all_seen x)
      earlier ys x (Lexᴰ.rel {a₁ = b} {l₁ = zs} l) = dead b (rest_follows x).0.child l zs x
      earlier ys x (Lexᴰ.cons {l₁ = zs} e q) = k zs (rest_follows (rw e at x)).1 q

  -- no child has one
  pub ends_nowhere : {seen : List ℕ} → ¬ AllSeen p F seen → ((c : ℕ) → Child p 0 c → DeadEnd p F seen c)
      → FirstRest p F seen none
  ends_nowhere {seen} more dead = no_rest none_at
    where
      none_at : (ys : List ℕ) → ¬ Rest p F seen ys
      none_at [] r = more (rest_all_seen r)
      none_at (c ∷ ys) r = dead c (rest_follows r).0.child ys r

module _ (p : Plan) (w : WellFormed p) where
  -- 23 by the number of children
  pub refused_is : ((p.tree.kind 0 ≢ all_of) ⊎ (7 < child_count p)) ↔ Refused23 p
  refused_is = (to, from)
    where
      children : ℕ → Bool
      children c = child_b p 0 c

      to : (p.tree.kind 0 ≢ all_of) ⊎ (7 < child_count p) → Refused23 p
      to (inl n) = not_all_of n
      to (inr l) = too_many (passing children p.tree.size) (rw (passing_length children p.tree.size) l)
          (passing_once children p.tree.size)
          (λ c m. (r_child p 0 c).to (passing_below children p.tree.size c m).1)

      from : Refused23 p → (p.tree.kind 0 ≢ all_of) ⊎ (7 < child_count p)
      from (not_all_of n) = inl n
      from (too_many xs l o h) = inr (omega (
        arith,
        l,
        few children p.tree.size xs
            (λ c m. (w.node_below c (h c m).node, (r_child p 0 c).from (h c m))) o,
      ))

module _ (p : Plan) (w : WellFormed p) (F : ℕ → Bool) where
  -- one turn
  module _ (m : ℕ → Bool → Bool) {seen : List ℕ}
      (r : (f : ℕ) (v : Bool) → Reflects (m f v) (MayBeTrue p F f v seen)) where
    r_may_follow : (c : ℕ) → Reflects (may_follow_b p m seen c) (MayFollow p F seen c)
    unfolding may_follow_b
    r_may_follow c = r_map (to, λ x. (x.child, (x.new, (λ a ha. x.ordered a, x.safe))))
        (r_guarded _ _ (r_child p 0 c)
        (λ hc. r_both _ _ (r_negate _ (r_listed seen c))
        (r_both _ _ (r_every_child p w (λ a. Before p a c → Among a seen) _
        (λ a ha. r_implies _ _ (r_before p w a c) (λ o. r_listed seen a))) (r_safe p w F m r hc.node))))
      where
        to : Child p 0 c
            × ((¬ Among c seen) × (((a : ℕ) → Child p 0 a → Before p a c → Among a seen) × Safe p F seen c))
            → MayFollow p F seen c
        to (hc, (n, (o, s))) =
            record { child = hc; new = n; ordered = λ a x. o a (before_child p w hc x) x; safe = s }

    turn : (k : ℕ) → ((c : ℕ) → MayFollow p F seen c → FirstRest p F (c ∷ seen) (rest_in p k (next_b p m c) (c ∷ seen)))
        → FirstRest p F seen (rest_in p (suc k) m seen)
    unfolding rest_in unless negate prefixed
    turn k ih = go (every_child_b p 0 (listed seen)) (r_every_child p w (λ c. Among c seen) _ (λ c hc. r_listed seen c))
      where
        g : ℕ → Option (List ℕ)
        g c = unless (negate (may_follow_b p m seen c)) none (λ u. prefixed c (rest_in p k (next_b p m c) (c ∷ seen)))

        -- where g gives nothing, a dead end; where it gives a list, the first rest through c
        dead : (c : ℕ) → g c ≡ none → DeadEnd p F seen c
        dead c e = at (may_follow_b p m seen c) (r_may_follow c) e
          where
            behind : (o : Option (List ℕ)) → FirstRest p F (c ∷ seen) o → prefixed c o ≡ none → DeadEnd p F seen c
            behind none x q = nothing_behind x
            behind (some xs) x q = clash cc

            at : (b : Bool) → Reflects b (MayFollow p F seen c)
                → unless (negate b) none (λ u. prefixed c (rest_in p k (next_b p m c) (c ∷ seen))) ≡ none
                → DeadEnd p F seen c
            at true q e = behind _ (ih c (q.to tt)) e
            at false q e = not_next q.from

        through : ¬ AllSeen p F seen → (c : ℕ) → ((b : ℕ) → b < c → g b ≡ none) → (xs : List ℕ) → g c ≡ some xs
            → FirstRest p F seen (some xs)
        through more c lower xs e = at (may_follow_b p m seen c) (r_may_follow c) e
          where
            behind : MayFollow p F seen c → (o : Option (List ℕ)) → FirstRest p F (c ∷ seen) o → prefixed c o ≡ some xs
                → FirstRest p F seen (some xs)
            behind mf none x q = clash cc
            behind mf (some ys) x q = rw q at (goes_on more (λ b hb l. dead b (lower b l)) mf x)

            at : (b : Bool) → Reflects b (MayFollow p F seen c)
                → unless (negate b) none (λ u. prefixed c (rest_in p k (next_b p m c) (c ∷ seen))) ≡ some xs
                → FirstRest p F seen (some xs)
            at true q e = behind (q.to tt) _ (ih c (q.to tt)) e
            at false q e = clash cc

        lowest_through : ¬ AllSeen p F seen → {o : Option (List ℕ)} → Lowest g p.tree.size o → FirstRest p F seen o
        lowest_through more (at {xs = xs} c l e lower) = through more c lower xs e
        lowest_through more (nowhere k) = ends_nowhere more (λ c hc. dead c (k c (w.node_below c hc.node)))

        go : (b : Bool) → Reflects b (AllSeen p F seen)
            → FirstRest p F seen (unless b (some []) (λ u. first_below p.tree.size g))
        go true q = ends_here (q.to tt)
        go false q = lowest_through q.from (lowest g p.tree.size)

  -- each turn leaves fewer unseen
  abbrev unseen_b : List ℕ → ℕ → Bool
  unseen_b seen c = negate (listed seen c)

  r_unseen : (seen : List ℕ) (c : ℕ) → Reflects (unseen_b seen c) (¬ Among c seen)
  r_unseen seen c = r_negate _ (r_listed seen c)

  fewer_unseen : (seen : List ℕ) (c : ℕ) → MayFollow p F seen c
      → count_below p.tree.size (unseen_b (c ∷ seen)) < count_below p.tree.size (unseen_b seen)
  fewer_unseen seen c mf = count_lt (unseen_b (c ∷ seen)) (unseen_b seen)
      (λ i x. (r_unseen seen i).from (λ j. (r_unseen (c ∷ seen) i).to x (there j)))
      p.tree.size c (w.node_below c mf.child.node) (λ x. (r_unseen (c ∷ seen) c).to x (here refl))
      ((r_unseen seen c).from mf.new)

  searched : (k : ℕ) (m : ℕ → Bool → Bool) {seen : List ℕ}
      → ((f : ℕ) (v : Bool) → Reflects (m f v) (MayBeTrue p F f v seen))
      → count_below p.tree.size (unseen_b seen) < k → FirstRest p F seen (rest_in p k m seen)
  searched zero m r b = absurd (omega arith)
  searched (suc k) m {seen} r b = turn m r k
      (λ c mf. searched k (next_b p m c) (r_next p w F m r mf.child.node) (omega (arith, fewer_unseen seen c mf)))

  -- of an all_of root: the search finds the first sequence, or there is none
  pub data Searched : Option (List ℕ) → Type 0 where
    first_clear : {xs : List ℕ} → FirstClear p F xs → Searched (some xs)
    none_clear : ((ys : List ℕ) → ¬ SerialClear p F ys) → Searched none

  -- what a search came to, by whatever code
  module _ (kr : p.tree.kind 0 ≡ all_of) where
    clear_rest : {xs : List ℕ} → SerialClear p F xs → Rest p F [] xs
    clear_rest {xs} x = let (sq, cl) = (serial_clears p xs).0 x in
        (sequence_rest p F xs).1 (sq, ((serial_clear p w F kr xs sq).0 cl).1)

    pub calm_searched : Calm p → {o : Option (List ℕ)} → FirstRest p F [] o → Searched o
    calm_searched calm (no_rest n) = none_clear (λ ys x. n ys (clear_rest x))
    calm_searched calm (first_rest {xs = xs} r n) = let (sq, ps) = (sequence_rest p F xs).0 r in first_clear (record {
      serial = (serial_clears p xs).1 (sq, (serial_clear p w F kr xs sq).1 (calm, ps));
      none_before = λ ys q x. n ys (clear_rest x) q;
    })

    pub restless_searched : ¬ Calm p → Searched none
    restless_searched k = none_clear (λ ys x. let (sq, cl) = (serial_clears p ys).0 x in
        k ((serial_clear p w F kr ys sq).0 cl).0)

  pub first_sequence_lem : p.tree.kind 0 ≡ all_of → Searched (first_sequence p F)
  unfolding first_sequence unless negate
  first_sequence_lem kr = go (calm_b p) (r_calm p w F kr)
    where
      enough : count_below p.tree.size (unseen_b []) < suc p.tree.size
      enough = omega (arith, count_le (unseen_b []) (λ i. true) (λ i x. tt) p.tree.size, count_all p.tree.size)

      go : (b : Bool) → Reflects b (Calm p)
          → Searched (unless (negate b) none (λ u. rest_in p (suc p.tree.size) (start_b F) []))
      go true q = calm_searched kr (q.to tt) (searched (suc p.tree.size) (start_b F) (r_start p w F) enough)
      go false q = restless_searched kr q.from

  -- the answer computed is the one asked for
  pub r_23 : Reflects (refused23_b p) (Refused23 p)
  unfolding refused23_b
  r_23 = r_map (refused_is p w) (r_either _ _ (r_negate _ (r_kind _ _)) (r_lt _ _))

  pub searched_sought : ¬ Refused23 p → {o : Option (List ℕ)} → Searched o → Sought p F (found_or24 o)
  searched_sought n (first_clear x) = found n x
  searched_sought n (none_clear x) = refused_24 n x

  pub sought : Sought p F (sequence_of p F)
  unfolding sequence_of
  sought = go (refused23_b p) r_23
    where
      go : (b : Bool) → Reflects b (Refused23 p) → Sought p F (unless23 b (first_sequence p F))
      go true r = refused_23 (r.to tt)
      go false r = searched_sought r.from
          (first_sequence_lem (force (decided (r_kind _ _)) (λ k. r.from (not_all_of k))))
