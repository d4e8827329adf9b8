-- The rules that compare a place with later ones: what a pass over the nodes or the conditions does at each place, and
-- what it finds.
use Rattle.std.specs.Prelude.{ℕ, ◌+◌, ◌*◌, ◌≡◌, ◌<◌, ◌≤◌, Bool, true, false, not, ◌&&◌, List}
use Rattle.std.specs.Prelude.{eqb, Option, Some, None, is_some}
use Rattle.std.specs.Bool.{then_some}
use Rattle.runs.specs.Searches.{any_below}
use Rattle.plan_codes.specs.Values.{flag_of, sign_of, place_of}
use Rattle.plan_format.specs.Format.{parent_of, cond_node, cond_value, is_group}
use Rattle.plan_rules_later.specs.declared.Ask.{Ask}
use Rattle.plan_rules_later.specs.declared.Ask.TheVariants.{Needs, Bars}
use Rattle.plan_rules_later.specs.declared.Step.{Step}

unfoldable pub child_step : List ℕ → ℕ → Step
child_step b n = record { asks = then_some (is_group b n) (Needs n); writes = Some (parent_of b n); mark = 1 }

-- place and flag as one number
unfoldable pub slot_of : ℕ → ℕ
slot_of v = 64 * place_of v + flag_of v

unfoldable pub sign_step : List ℕ → ℕ → Step
sign_step b i =
    record {
      asks = then_some (eqb (sign_of (cond_value b i)) 0) (Bars (slot_of (cond_value b i)));
      writes = then_some (eqb (sign_of (cond_value b i)) 1) (slot_of (cond_value b i));
      mark = cond_node b i + 1;
    }

unfoldable pub post_step : List ℕ → ℕ → Step
post_step b i =
    record {
      asks = then_some (eqb (place_of (cond_value b i)) 1) (Needs (flag_of (cond_value b i)));
      writes = then_some (eqb (place_of (cond_value b i)) 2) (flag_of (cond_value b i));
      mark = cond_node b i + 1;
    }

-- the entry that is asked; entry k is written; what was asked is not so, where the entry is the mark or is not
abbrev pub asked : Option Ask → ℕ
asked None = 0
asked (Some (Needs k)) = k
asked (Some (Bars k)) = k

abbrev pub written : Option ℕ → ℕ → Bool
written None k = false
written (Some j) k = eqb j k

abbrev pub refused_by : Option Ask → Bool → Bool
refused_by None found = false
refused_by (Some (Needs k)) found = not found
refused_by (Some (Bars k)) found = found

-- place j writes the mark that place i asks
abbrev pub answers : (ℕ → Step) → ℕ → ℕ → Bool
answers s i j = written (s j).writes (asked (s i).asks) && eqb (s j).mark (s i).mark

-- place i refuses, by all n places
abbrev pub judged : ℕ → (ℕ → Step) → ℕ → Bool
judged n s i = refused_by (s i).asks (any_below n (answers s i))

-- marks are above 0 and never fall, and only later places answer
pub record InOrder (n : ℕ) (s : ℕ → Step) : Type 0 where
  pub positive : (i : ℕ) → i < n → 0 < (s i).mark
  pub rises : (i j : ℕ) → i ≤ j → j < n → (s i).mark ≤ (s j).mark
  pub later : (i j : ℕ) → i < n → j < n → is_some (s i).asks ≡ true → answers s i j ≡ true → i < j

-- whatever steps the places below n take, a pass over them answers whether some place refuses
abbrev pub Finds : (ℕ → Step → Type 0) → ℕ → Bool → Type 0
Finds takes n r = (s : ℕ → Step) → ((i : ℕ) (x : Step) → i < n → takes i x → x ≡ s i) → InOrder n s
    → r ≡ any_below n (judged n s)
