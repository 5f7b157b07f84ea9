-- What `any` answers is the test.
use Rattle.std.proofs.Common.{rules, tests, refl, ap, ℕ, Bool, ◌≡◌, ◌<◌, ◌/◌, length, get_or, ◌∙◌, arith}
use Rattle.std.specs.List.{list_any, range_with_len}
use Rattle.std.proofs.lemmas.List.FromFn.{length-range_with_len, get_or-range_with_len}
use Rattle.std.proofs.lemmas.List.Recursion.{or_at, or_from_places}
use Rattle.std.proofs.lemmas.Iterator.{YieldsList-from_range}
use Rattle.std.proofs.lemmas.Iterator.Search.{any_from_yields_List}
use mathlib.Core.Option.{Option, none, some}
use Rattle.laws.specs.Tests.{found}
use Rattle.laws.specs.Search.{lowest}
use Rattle.laws.proofs.Search.{Says, lowest_says}
use Rattle.lists.specs.Lists.{above_one, wrong_mark}
use Rattle.lists.proofs.wrong_mark.Goals as goal

-- some number below n passes a test where there is a lowest that does
any_found : (f : ℕ → Bool) (n : ℕ) → list_any f (range_with_len 0 n) ≡ found (lowest f n)
any_found f n = by (lowest f n) (lowest_says f n)
  where
    here : (i : ℕ) → i < n → f (get_or (range_with_len 0 n) i 0) ≡ f i
    here i h =
        let e : get_or (range_with_len 0 n) i 0 ≡ i = omega (arith, get_or-range_with_len 0 n i 0 h) in
        ap f e

    by : (o : Option ℕ) → Says f n o → list_any f (range_with_len 0 n) ≡ found o
    by none s = or_from_places (list_any f) f refl (λ x xs. refl) (range_with_len 0 n) 0 (λ i l. let h : i < n = omega (arith, length-range_with_len 0 n) in here i h ∙ s i h)
    by (some i) s = or_at (list_any f) f refl (λ x xs. refl) (range_with_len 0 n) i 0 (omega (arith, length-range_with_len 0 n, s.inside)) (here i s.inside ∙ s.passes)

pub returns : goal.returns
unfolding wrong_mark
returns c =
    let ws = c.args.words.now in
    any_from_yields_List (above_one ws) _ _ _ c.any.ensures.ran (YieldsList-from_range 0 (length ws / 4) (length ws / 4) refl (search rules)) (λ x b q k. search (rules, tests))
    ∙ any_found (above_one ws) (length ws / 4)
