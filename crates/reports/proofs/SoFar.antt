-- What is judged after each report of a list, and that the whole is judged as the rules say.
use mathlib.Core.Path.{◌≡◌, refl, sym, ap, ◌∙◌}
use mathlib.Core.Logic.{⊎_elim}
use mathlib.Core.List.{List, [], ◌∷◌, ◌++◌, map}
use Prim.Native.Nat.{ℕ, ◌+◌, ◌≤◌, ◌<◌}
use native.Mathlib.Omega.{arith}
use native.Mathlib.Numerals.{add-one}
use borrow.Author.Tests.{le-leb, lt-leb}
use lib.ListN.{length, take, get_or, length-map, length-append}
use lib.Seq.{length-take-le, take_all, take-suc, take-append-le}
use Rattle.laws.specs.Lists.{pad}
use Rattle.laws.proofs.Lists.{map_append, take_pad, pad_snoc}
use Rattle.laws.proofs.Tests.{lt_or_ge}
use Rattle.table.specs.Table.{table_of}
use Rattle.common.specs.Common.{common_of}
use Rattle.passes.specs.declared.Classed.{Classed}
use Rattle.passes.specs.Classed.{no_class}
use Rattle.judge.specs.declared.Prepared.{Prepared}
use Rattle.judge.specs.Judgement.{classed_as, conclusion, judgement}
use Rattle.judge.specs.Lent.{prepared}
use Rattle.judge.proofs.Lent.{classed_same}
use Rattle.judge.proofs.Folded.{map_map, concluded}
use Rattle.reports.specs.declared.Told.{Told}
use Rattle.reports.specs.declared.Basis.{Basis}
use Rattle.reports.specs.declared.Judging.{Judging}
use Rattle.reports.specs.Reports.{told_of, round_of_told, judged, begun, with_next, Ready}

-- a list of at most fifteen, in fifteen places
abbrev placed : Prepared → List Told → Judging
placed p l = record { prepared = p; count = length l; all = pad 15 no_class (map (judged p) l) }

module _ (p : Prepared) where
  snoc : (l : List Told) (e : Told) → length l < 15 → with_next (placed p l) e ≡ placed p (l ++ (e ∷ []))
  unfolding with_next
  snoc l e h =
      let n : length (map (judged p) l) ≡ length l = length-map l (judged p) in
      let t = pad_snoc 15 no_class (map (judged p) l) (judged p e) (omega arith) in
      rw (lt-leb 15 (length l) h) (λ i. record { prepared = p; count = more i; all = (rw n at t ∙ ap (pad 15 no_class) (sym (map_append (judged p) l (e ∷ [])))) i })
    where
      more : length l + 1 ≡ length (l ++ (e ∷ []))
      more = simp length-append

  full : (l : List Told) (e : Told) → 15 ≤ length l → with_next (placed p l) e ≡ placed p l
  unfolding with_next
  full l e h = rw (le-leb 15 (length l) h)

module _ (b : Basis) where
  abbrev walked : Prepared
  walked = prepared b.table b.common b.time

  abbrev pub so_far : List Told → Judging
  so_far l = placed walked (take 15 l)

  pub none_yet : begun b ≡ so_far []
  none_yet = refl

  one_more : (l : List Told) (e : Told) → with_next (so_far l) e ≡ so_far (l ++ (e ∷ []))
  one_more l e = ⊎_elim within beyond (lt_or_ge (length l) 15)
    where
      within : length l < 15 → with_next (so_far l) e ≡ so_far (l ++ (e ∷ []))
      within h =
          let n : length (l ++ (e ∷ [])) ≡ length l + 1 = simp length-append in
          rw (take_all 15 l (omega arith), take_all 15 (l ++ (e ∷ [])) (omega arith)) (snoc walked l e h)

      beyond : 15 ≤ length l → with_next (so_far l) e ≡ so_far (l ++ (e ∷ []))
      beyond h =
          let n = length-take-le 15 l h in
          rw (take-append-le 15 l (e ∷ []) h) (full walked (take 15 l) e (omega arith))

  -- a turn of the loop
  pub turned : (l : List Told) (i : ℕ) (d : Told) → i < length l → with_next (so_far (take i l)) (get_or l i d) ≡ so_far (take (i + 1) l)
  turned l i d h = one_more (take i l) (get_or l i d) ∙ ap so_far (sym (take-suc l i d h) ∙ ap (λ (n : ℕ). take n l) (sym (add-one i)))

  pub few : (l : List Told) → (so_far l).count ≤ 15
  few l = ⊎_elim (λ h. rw (take_all 15 l (omega arith)) (omega arith)) (λ h. omega (arith, length-take-le 15 l h)) (lt_or_ge (length l) 15)

  module _ (v : Ready b) where
    judged_is : (l : List Told) → map (judged walked) l ≡ map (λ e. classed_as (table_of b.table) (common_of b.common) b.time (told_of e)) l
    judged_is l = ap (λ (f : Told → Classed). map f l) (λ i e. classed_same v.checked v.given b.time refl (told_of e) i)

    pub whole : (l : List Told) → conclusion (table_of b.table) (common_of b.common) (take (so_far l).count (so_far l).all)
        ≡ judgement (table_of b.table) (common_of b.common) (round_of_told b.time l)
    whole l =
        let tab = table_of b.table in
        let c = common_of b.common in
        ap (λ (n : ℕ). conclusion tab c (take n (so_far l).all)) (sym (length-map (take 15 l) (judged walked)))
        ∙ ap (conclusion tab c) (take_pad 15 no_class (map (judged walked) (take 15 l)) ∙ judged_is (take 15 l) ∙ sym (map_map told_of (classed_as tab c b.time) (take 15 l)))
        ∙ concluded tab c (round_of_told b.time l)
