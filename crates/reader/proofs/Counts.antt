-- A count that was read is within its limit and its room, and so is what a record that was read lists: it fits its places, by value and lent.
use mathlib.Core.Path.{◌≡◌, refl, sym, ap}
use mathlib.Core.List.{List}
use Prim.Native.Nat.{ℕ, zero, suc, ◌≤◌}
use native.Mathlib.Omega.{arith}
use borrow.Author.Tests.{ltb-false}
use lib.ListN.{length, drop}
use Rattle.laws.specs.Tests.{◌<?◌}
use Rattle.rules.specs.Judge as rules
use Rattle.rules.specs.Numbers.{Read, Reads}
use Rattle.rules.specs.Written.{times, counted, read_record}
use Rattle.rules.specs.Answer.{done}
use Rattle.rules.proofs.Reading.{Gives, so, gives_at, gives_after, gives_refuse, Takes, number_takes, release_takes, entry_takes, then_takes, counted_takes}
use Rattle.number.specs.Numbers.{number_read}
use Rattle.number.proofs.Told.{Done, told_value}
use Rattle.reader.specs.Records.{count_in}

pub record Counted (limit room n : ℕ) : Type 0 where
  pub few : n ≤ limit
  pub fits : n ≤ room

pub counted_so : (limit room n : ℕ) (s : List ℕ) → Gives (λ (x : Read ℕ). Counted limit room x.value) (counted limit room n s)
counted_so limit room n s =
    gives_refuse 15 (limit <? n) λ e. gives_refuse 21 (room <? n) λ f. so (record { few = ltb-false limit n e; fits = ltb-false room n f })

pub times_many : {A : Type 0} (n : ℕ) {rd : Reads A} → Takes rd → (s : List ℕ) → Gives (λ (x : Read (List A)). length x.value ≡ n) (times n rd s)
unfolding times
times_many zero h s = so refl
times_many (suc n) h s = gives_after _ (h.from s) λ x p. gives_after _ (times_many n h x.rest) λ xs e. so (ap suc e)

module _ (j k : ℕ) where
  pub record Few (q : rules.Round) : Type 0 where
    pub listed : Counted 64 j (length q.releases)
    pub entered : Counted 15 k (length q.entries)

  pub record_few : (s : List ℕ) → Gives (λ (x : Read rules.Round). Few x.value) (read_record j k s)
  unfolding read_record
  record_few s =
      gives_after _ (number_takes.from s) λ r p. gives_after _ (number_takes.from r.rest) λ m p₁. gives_after _ (counted_so 64 j m.value m.rest) λ m' a.
      gives_after _ (times_many m'.value release_takes m'.rest) λ xs b. gives_after _ (number_takes.from xs.rest) λ n p₂.
      gives_after _ (counted_so 15 k n.value n.rest) λ n' d. gives_after _ (times_many n'.value entry_takes n'.rest) λ es e.
      so (record {
        listed = record { few = omega (arith, a.few, b); fits = omega (arith, a.fits, b) };
        entered = record { few = omega (arith, d.few, e); fits = omega (arith, d.fits, e) };
      })

pub count_takes : (limit room : ℕ) → Takes (count_in limit room)
count_takes limit room = then_takes number_takes (counted_takes limit room)

pub counts : (limit room : ℕ) (s : List ℕ) → Gives (λ (x : Read ℕ). Counted limit room x.value) (count_in limit room s)
counts limit room s = gives_after (counted limit room) (number_takes.from s) λ x p. counted_so limit room x.value x.rest

-- a count as it is told
module _ (limit room : ℕ) (s : List ℕ) (from : ℕ) {count next : ℕ} (p : done (count, next) ≡ number_read s (count_in limit room (drop from s))) where
  pub count_done : Done s (count_in limit room (drop from s)) count next
  count_done = let t = told_value (λ v. v) (count_takes limit room) s from (sym p) in rw t.same at t.was

  pub count_few : count ≤ limit
  count_few =
      let w : Gives (λ (x : Read ℕ). Counted limit room x.value) (done (record { value = count; rest = drop next s })) = rw count_done.is at (counts limit room (drop from s)) in
      (gives_at w).few
