-- `first_among` meets its contract. Assumes nothing.
use mathlib.Core.Path.{◌≡◌, refl}
use native.Mathlib.Omega.{arith}
use Rattle.std.specs.declared.option.Option.TheVariants.{Some, None}
use Rattle.std.proofs.lemmas.Result.{err_from_is_err_and}
use Rattle.answers.specs.declared.Refusal.TheVariants.{NoSequence}
use Rattle.sequence.proofs.Answers.{restless, unfound, found}
use Rattle.sequence.proofs.first_among.Goals as goal

pub returns-then-not-calm : goal.returns-then-not-calm
returns-then-not-calm c p F b st = restless c.requires b c.calm.ensures c.if-not-calm.true

pub returns-in_err-rest : goal.returns-in_err-rest
returns-in_err-rest c p F b st =
    let q = err_from_is_err_and c.from_residual.result c.from_residual.ensures.1 in
    let none : c.search.result ≡ None = grind arith in
    let refusal : c.in_err-rest.field-0.0 ≡ NoSequence = grind arith in
    rw (q.1, q.2, refusal) (unfound c.requires b st (omega arith) c.before_masks-before.ensures c.calm.ensures
    c.if-not-calm.false c.search.ensures none)

pub returns : goal.returns
returns c p F b st =
    let some : c.search.result ≡ Some c.in_ok-rest.rest = grind arith in
    found c.requires b st (omega arith) c.before_masks-before.ensures c.calm.ensures c.if-not-calm.false
    c.search.ensures some refl
