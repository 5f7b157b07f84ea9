-- The numbers before the entries: those pushed so far, with what is still to come behind them.
use mathlib.Core.Path.{◌≡◌, sym, ap, ◌∙◌}
use mathlib.Core.List.{List, [], ◌∷◌, ◌++◌, map, foldr, append_assoc}
use Prim.Native.Nat.{ℕ, ◌+◌, ◌≤◌, ◌<◌}
use native.Mathlib.Omega.{arith}
use borrow.Author.Rules.{rules}
use lib.ListN.{length, take, drop, get_or, length-append, drop_of_length-le}
use Rattle.std.proofs.lemmas.List.{drop_more, length-take}
use Rattle.rules.specs.Judge as rounds
use Rattle.rules.proofs.Trip.{release_numbers}
use Rattle.round.specs.declared.Release.{Release}
use Rattle.round.specs.declared.Round.{Round}
use Rattle.round.specs.Round.{release_of, no_release}
use Rattle.writer.specs.Writing.{head_numbers}
use Rattle.writer.proofs.Filling.{releases_listed}
use Rattle.writer.proofs.head.Invariants.{Inv}
use Rattle.writer.proofs.head.Goals as goal

inv_start : (q : Round) → length q.releases ≡ 64 → q.listed ≤ 64 → Inv q (take q.listed q.releases) (q.time ∷ q.listed ∷ []) 0
inv_start q l h = record {
  few = omega (arith, length-take q.listed q.releases);
  to = omega arith;
  many = omega arith;
  to_do = ap (λ (xs : List rounds.Release). q.time ∷ q.listed ∷ foldr release_numbers (q.entered ∷ []) xs) (releases_listed q (omega arith));
}

module _ {q : Round} {xs : List Release} {ns : List ℕ} {i : ℕ} (v : Inv q xs ns i) where
  abbrev before : List Release → List ℕ
  before l = ns ++ foldr release_numbers (q.entered ∷ []) (map release_of l)

  inv_more : {one two : List ℕ} → i < length xs → one ≡ ns ++ ((get_or xs i no_release).task ∷ []) → two ≡ one ++ ((get_or xs i no_release).delay ∷ []) → Inv q xs two (i + 1)
  inv_more {one} {two} h e f =
      let x = get_or xs i no_release in
      let g : two ≡ ns ++ (x.task ∷ x.delay ∷ []) = f ∙ ap (λ (l : List ℕ). l ++ (x.delay ∷ [])) e ∙ append_assoc ns (x.task ∷ []) (x.delay ∷ []) in
      let rest = foldr release_numbers (q.entered ∷ []) (map release_of (drop (i + 1) xs)) in
      record {
        few = v.few;
        to = omega arith;
        many = rw (g, length-append) (omega (arith, v.many));
        to_do = v.to_do ∙ ap before (drop_more xs i no_release h) ∙ sym (append_assoc ns (x.task ∷ x.delay ∷ []) rest) ∙ ap (λ (l : List ℕ). l ++ rest) (sym g);
      }

  inv_done : length xs ≤ i → ns ++ (q.entered ∷ []) ≡ head_numbers q
  inv_done h = sym (v.to_do ∙ ap before (drop_of_length-le xs h))

pub loop-x-init : goal.loop-x-init
loop-x-init c = rw (c.push-2.ensures, c.push.ensures, c.new-numbers.ensures) (inv_start c.args.q (search rules) c.requires)
