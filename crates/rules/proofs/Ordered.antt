-- The order part of demand 3, over any order that grows record by record and is fixed up to an offset. Nothing here knows of nodes, reports or calls.
--     carried          what is within the offset after the next record stays
--     later-..         a trace, and the same one later
--     others-order     what was started is the first part of another's order
use mathlib.Core.Path.{◌≡◌, refl, sym, ap, ◌∙◌}
use mathlib.Core.List.{List, [], ◌∷◌, ◌++◌, append_assoc, append-nil, cons≢nil}
use mathlib.Core.Logic.{◌⊎◌, inl, inr, ⊎_elim}
use Prim.Native.Nat.{ℕ, ◌≤◌}
use native.Mathlib.Omega.{arith}
use lib.ListN.{length, take}
use lib.Seq.{append_snoc}
use Rattle.laws.specs.Lists.{Prefix}
use Rattle.laws.proofs.Lists.{prefix_refl, prefix_trans, prefix_length, prefix_carry, take_cut, split_longer}

-- `order qs` and `offset qs`: after the records qs. The offset does not fall, and a record changes nothing up to the offset that it gives.
pub record Ordered {Q : Type 0} (order : List Q → List ℕ) (offset : List Q → ℕ) : Type 0 where
  pub rises : (qs : List Q) (q : Q) → offset qs ≤ offset (qs ++ (q ∷ []))
  pub fixed : (qs : List Q) (q : Q) → take (offset (qs ++ (q ∷ []))) (order (qs ++ (q ∷ []))) ≡ take (offset (qs ++ (q ∷ []))) (order qs)

module _ {Q : Type 0} {order : List Q → List ℕ} {offset : List Q → ℕ} (K : Ordered order offset) where
  stays : (qs : List Q) (q : Q) (rest : List Q) → take (offset (qs ++ (q ∷ []))) (order (qs ++ (q ∷ rest))) ≡ take (offset (qs ++ (q ∷ []))) (order qs)
  stays qs q [] = K.fixed qs q
  stays qs q (r ∷ rest) =
      let i = stays (qs ++ (q ∷ [])) r rest in
      let j = take_cut (order ((qs ++ (q ∷ [])) ++ (r ∷ rest))) (order (qs ++ (q ∷ []))) (K.rises (qs ++ (q ∷ [])) r) i in
      rw (append_snoc qs q (r ∷ rest)) at j ∙ K.fixed qs q

  pub carried : {xs : List ℕ} (qs : List Q) (q : Q) (rest : List Q) → Prefix xs (order qs) → length xs ≤ offset (qs ++ (q ∷ [])) → Prefix xs (order (qs ++ (q ∷ rest)))
  carried qs q rest h l = prefix_carry (order (qs ++ (q ∷ rest))) h l (stays qs q rest)

-- What a node has closed and started.
pub record Trace (Q : Type 0) : Type 0 where
  pub closed : List Q
  pub started : List ℕ

-- y is x with further records closed, and the first of them took in all that x had started.
pub record Settled {Q : Type 0} (offset : List Q → ℕ) (x y : Trace Q) : Type 0 where
  pub q : Q
  pub qs : List Q
  pub split : y.closed ≡ x.closed ++ (q ∷ qs)
  pub covers : length x.started ≤ offset (x.closed ++ (q ∷ []))

-- y is x later.
pub record Later {Q : Type 0} (offset : List Q → ℕ) (x y : Trace Q) : Type 0 where
  pub grows : Prefix x.started y.started
  pub settled : (y.closed ≡ x.closed) ⊎ Settled offset x y

module _ {Q : Type 0} {offset : List Q → ℕ} where
  pub later_refl : (x : Trace Q) → Later offset x x
  later_refl x = record { grows = prefix_refl x.started; settled = inl refl }

  -- a call that closes nothing
  pub later_same : {x y z : Trace Q} → Later offset x y → Prefix y.started z.started → z.closed ≡ y.closed → Later offset x z
  later_same {x} {y} {z} h p e = record {
    grows = prefix_trans h.grows p;
    settled = ⊎_elim (λ (k : y.closed ≡ x.closed). inl (e ∙ k)) (λ (s : Settled offset x y). inr (record {
      q = s.q;
      qs = s.qs;
      split = e ∙ s.split;
      covers = s.covers;
    })) h.settled;
  }

  -- one or more records, the first of which takes in all that was started
  pub later_close : {x y z : Trace Q} (q : Q) (qs : List Q) → Later offset x y → length y.started ≤ offset (y.closed ++ (q ∷ []))
      → Prefix y.started z.started → z.closed ≡ y.closed ++ (q ∷ qs) → Later offset x z
  later_close {x} {y} {z} q qs h n p e = record {
    grows = prefix_trans h.grows p;
    settled = ⊎_elim
        (λ (k : y.closed ≡ x.closed). inr (record {
          q = q;
          qs = qs;
          split = e ∙ ap (λ (l : List Q). l ++ (q ∷ qs)) k;
          covers = rw (← k) (omega (arith, n, prefix_length h.grows));
        }))
        (λ (s : Settled offset x y). inr (record {
          q = s.q;
          qs = s.qs ++ (q ∷ qs);
          split = e ∙ ap (λ (l : List Q). l ++ (q ∷ qs)) s.split ∙ append_assoc x.closed (s.q ∷ s.qs) (q ∷ qs);
          covers = s.covers;
        }))
        h.settled;
  }

-- ys: what another has closed. `next`: the first record that x has not closed takes in all that x has started.
module _ {Q : Type 0} {order : List Q → List ℕ} {offset : List Q → ℕ} (K : Ordered order offset) {x₀ x : Trace Q}
    (right₀ : Prefix x₀.started (order x₀.closed)) (right : Prefix x.started (order x.closed)) (l : Later offset x₀ x) (ys : List Q)
    (next : (q : Q) (qs : List Q) → x.closed ++ (q ∷ qs) ≡ ys → length x.started ≤ offset (x.closed ++ (q ∷ []))) where
  -- the other has closed as many as x, or more
  ahead : (t : List Q) → x.closed ++ t ≡ ys → Prefix x₀.started (order ys)
  ahead [] e =
      let k : ys ≡ x.closed = sym e ∙ append-nil x.closed in
      prefix_trans l.grows (rw k right)
  ahead (q ∷ qs) e = rw (← e) (prefix_trans l.grows (carried K x.closed q qs right (next q qs e)))

  as_many : ys ≡ x₀.closed ++ [] → Prefix x₀.started (order ys)
  as_many p =
      let k : ys ≡ x₀.closed = p ∙ append-nil x₀.closed in
      rw k right₀

  -- x has closed more, and x₀ had not
  between : (t : List Q) → ys ++ t ≡ x.closed → length x₀.closed ≤ length ys → Prefix x₀.started (order ys)
  between t e n = by l.settled
    where
      none_more : (u : List Q) → ys ≡ x₀.closed ++ u → u ++ t ≡ [] → Prefix x₀.started (order ys)
      none_more [] p r = as_many p
      none_more (q ∷ u) p r = absurd (cons≢nil r)

      some_more : (u : List Q) (s : Settled offset x₀ x) → ys ≡ x₀.closed ++ u → u ++ t ≡ s.q ∷ s.qs → Prefix x₀.started (order ys)
      some_more [] s p r = as_many p
      some_more (q ∷ u) s p r =
          let k : s.q ≡ q = cc in
          rw p (carried K x₀.closed q u right₀ (rw k at s.covers))

      by : (x.closed ≡ x₀.closed) ⊎ Settled offset x₀ x → Prefix x₀.started (order ys)
      by (inl p) =
          let d = split_longer ys x₀.closed (e ∙ p ∙ sym (append-nil x₀.closed)) n in
          none_more d.0 d.1 d.2
      by (inr s) =
          let d = split_longer ys x₀.closed (e ∙ s.split) n in
          some_more d.0 s d.1 d.2

  pub others_order : Prefix ys x.closed ⊎ Prefix x.closed ys → length x₀.closed ≤ length ys → Prefix x₀.started (order ys)
  others_order (inl p) n = between p.rest p.whole n
  others_order (inr p) n = ahead p.rest p.whole
