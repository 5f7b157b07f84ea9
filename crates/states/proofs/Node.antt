-- The words of a node are a written form of it: what is taken is `Given`, its words are those that came in, and no node that was given back is refused:
-- `taken_given`, `taken_words`, `given_taken`.
use Rattle.std.specs.Prelude.{Option, Some, None, if◌then◌else◌}
use mathlib.Core.Path.{◌≡◌, refl, sym, ap, subst, ◌∙◌}
use mathlib.Core.Bool.{Bool, true, false, false≢true}
use mathlib.Core.Logic.{◌⊎◌, inl, inr, ⊎_elim}
use mathlib.Core.Option.{some}
use mathlib.Core.List.{List, [], ◌∷◌, ◌++◌}
use Prim.Native.Nat.{ℕ, ◌+◌, ◌^◌, ◌≤◌, ◌<◌}
use native.Mathlib.Omega.{arith}
use borrow.Author.Tests.{ltb-true, leb-true, eqb-true, not-false, lt-ltb, le-leb, eq-eqb}
use lib.ListN.{length, drop, get_or, length-drop}
use Rattle.laws.specs.Tests.{◌=?◌, all_of, found}
use Rattle.laws.specs.Lists.{rows}
use Rattle.laws.proofs.Tests.{each_of, none≢some, some_same}
use Rattle.rules.specs.Answer.{done}
use Rattle.rules.specs.Common.{L}
use Rattle.rules.specs.Node as rules
use Rattle.rules.specs.Sound.{SoundOpen}
use Rattle.rules.proofs.Answers.{passed, same_done}
use Rattle.table.specs.declared.Table.{Table}
use Rattle.common.specs.declared.Common.{Common}
use Rattle.common.specs.Common.{common_of}
use Rattle.common.specs.Common as commons
use Rattle.common.proofs.Records.{length_is}
use Rattle.node.specs.declared.Sent.{Sent}
use Rattle.node.specs.declared.Node.{Node}
use Rattle.node.specs.Node.{round_of, Given}
use Rattle.node.proofs.Laws.{common_given}
use Rattle.states.specs.Common.{mark, common_words, common_in, known_common}
use Rattle.states.specs.Node.{sent_of, round_words, node_words, sent_in, round_in, node_in, known_own, known_sent, none_sent, known_round, known_before, known_node, node_at}
use Rattle.states.proofs.Words.{mark_back, mark_small, word_back, front}
use Rattle.states.proofs.Sizes.{Sizes, sizes_given, given_sizes}
use Rattle.states.proofs.Common.{known_sizes, words_same, words_long, same_back, known_back}

-- what the words have passed
pub record Taken (t : Table) (ws : List ℕ) (n : Node) : Type 0 where
  pub long : length ws ≡ 336
  pub known : known_node t ws ≡ true
  pub is : node_in ws ≡ n

pub taken : {t : Table} {ws : List ℕ} {n : Node} → node_at t ws ≡ done n → Taken t ws n
unfolding node_at
taken h =
    let a = passed 100 _ h in
    let b = passed 102 _ a.1 in
    record { long = eqb-true _ 336 (not-false _ a.0); known = not-false _ b.0; is = same_done b.1 }

record Own (nodes last number progress completed running latest : ℕ) : Type 0 where
  exists : progress + running ≤ last
  number_small : number < nodes
  one : running ≤ 1
  completed_small : completed < 2 ^ 48
  latest_small : latest < 2 ^ 49

own : (nodes last number progress completed running latest : ℕ) → known_own nodes last number progress completed running latest ≡ true
    → Own nodes last number progress completed running latest
unfolding known_own
own nodes last number progress completed running latest h =
    let a = each_of _ h in
    record {
      exists = leb-true (progress + running) last (a 0);
      number_small = ltb-true number nodes (a 1);
      one = leb-true running 1 (a 2);
      completed_small = ltb-true completed (2 ^ 48) (a 3);
      latest_small = ltb-true latest (2 ^ 49) (a 4);
    }

-- no round, or one
module _ (last opened : ℕ) (s : Sent) where
  which : known_round last opened s ≡ true → ((opened ≡ 0) × (none_sent s ≡ true)) ⊎ ((opened ≡ 1) × (known_sent last s ≡ true))
  unfolding known_round
  which h = by (opened =? 0) (opened =? 1) refl refl h
    where
      by : (a b : Bool) → (opened =? 0) ≡ a → (opened =? 1) ≡ b → (if a then none_sent s else if b then known_sent last s else false) ≡ true
          → ((opened ≡ 0) × (none_sent s ≡ true)) ⊎ ((opened ≡ 1) × (known_sent last s ≡ true))
      by true b e f h = inl (eqb-true opened 0 e, h)
      by false true e f h = inr (eqb-true opened 1 f, h)
      by false false e f h = absurd (false≢true h)

  sent_sound : (c : Common) → last ≡ L (common_of c) → known_sent last s ≡ true → (o : rules.Open) → round_of (Some s) ≡ some o → SoundOpen (common_of c) o
  unfolding known_sent
  sent_sound c l h o e =
      let a = each_of _ h in
      subst (SoundOpen (common_of c)) (some_same e)
      (record {
        time = ltb-true s.time (2 ^ 48) (a 0);
        progress = omega (arith, l, leb-true s.report.progress last (a 1));
        completed = ltb-true s.report.completed (2 ^ 48) (a 2);
        run = leb-true s.report.run 1 (a 3);
      })

  round_sound : (c : Common) → last ≡ L (common_of c) → known_round last opened s ≡ true → (o : rules.Open) → round_of (round_in opened s) ≡ some o → SoundOpen (common_of c) o
  round_sound c l h o e =
      ⊎_elim (λ k. none≢some (rw k.0 at e)) (λ k. sent_sound c l k.1 o (rw k.0 at e)) (which h)

  round_same : known_round last opened s ≡ true → round_words (round_in opened s) ≡ opened ∷ s.time ∷ s.report.progress ∷ s.report.completed ∷ s.report.run ∷ []
  unfolding none_sent
  round_same h =
      ⊎_elim
      (λ k.
      let a = each_of _ k.1 in
      ap (λ (w : ℕ). round_words (round_in w s)) k.0
      ∙ λ i. sym k.0 i ∷ sym (eqb-true s.time 0 (a 0)) i ∷ sym (eqb-true s.report.progress 0 (a 1)) i
      ∷ sym (eqb-true s.report.completed 0 (a 2)) i ∷ sym (eqb-true s.report.run 0 (a 3)) i ∷ [])
      (λ k.
      ap (λ (w : ℕ). round_words (round_in w s)) k.0
      ∙ ap (λ (w : ℕ). w ∷ s.time ∷ s.report.progress ∷ s.report.completed ∷ s.report.run ∷ []) (sym k.0))
      (which h)

module _ (ws : List ℕ) (long : length ws ≡ 336) (t : Table) (h : known_node t ws ≡ true) where
  rest_long : length (drop 10 ws) ≡ 326
  rest_long = rw length-drop (omega arith)

  rest_known : known_common t (drop 10 ws) ≡ true
  unfolding known_node
  rest_known = each_of _ h 0

  rest_given : commons.Given t (common_in (drop 10 ws))
  rest_given = sizes_given (known_sizes (drop 10 ws) rest_long t rest_known)

  abbrev last : ℕ
  last = (common_in (drop 10 ws)).base + (common_in (drop 10 ws)).count

  last_is : last ≡ L (common_of (common_in (drop 10 ws)))
  last_is = sym (length_is rest_given)

  own_known : Own t.nodes last (get_or ws 0 0) (get_or ws 1 0) (get_or ws 2 0) (get_or ws 3 0) (get_or ws 4 0)
  unfolding known_node known_before
  own_known = own t.nodes last (get_or ws 0 0) (get_or ws 1 0) (get_or ws 2 0) (get_or ws 3 0) (get_or ws 4 0) (each_of _ (each_of _ h 1) 0)

  round_known : known_round last (get_or ws 5 0) (sent_in ws) ≡ true
  unfolding known_node known_before
  round_known = each_of _ (each_of _ h 1) 1

  known_given : Given t (node_in ws)
  unfolding node_in
  known_given = record {
    exact = rest_given.exact;
    sound = record {
      number = own_known.number_small;
      common = rest_given.sound;
      progress = omega (arith, own_known.exists, word_back (get_or ws 3 0) own_known.one, last_is);
      completed = own_known.completed_small;
      latest = own_known.latest_small;
      round = round_sound last (get_or ws 5 0) (sent_in ws) (common_in (drop 10 ws)) last_is round_known;
    };
  }

  node_same : node_words (node_in ws) ≡ ws
  unfolding node_words node_in sent_in rows
  node_same =
      let w = word_back (get_or ws 3 0) own_known.one in
      let r = round_same last (get_or ws 5 0) (sent_in ws) round_known in
      let c = words_same (drop 10 ws) rest_long t rest_known in
      (λ i. get_or ws 0 0 ∷ get_or ws 1 0 ∷ get_or ws 2 0 ∷ w i ∷ get_or ws 4 0 ∷ (r i ++ c i)) ∙ front 10 ws (omega arith)

-- a node that was taken may be asked everything that one that was given back may be
pub taken_given : (t : Table) (ws : List ℕ) {n : Node} → node_at t ws ≡ done n → Given t n
taken_given t ws h =
    let k = taken h in
    subst (Given t) k.is (known_given ws k.long t k.known)

-- and its words are those that came in
pub taken_words : (t : Table) (ws : List ℕ) {n : Node} → node_at t ws ≡ done n → node_words n ≡ ws
taken_words t ws h =
    let k = taken h in
    ap node_words (sym k.is) ∙ node_same ws k.long t k.known

round_back : (o : Option Sent) → round_in (mark (found (round_of o))) (sent_of o) ≡ o
round_back None = refl
round_back (Some s) = refl

round_yes : (c : Common) (last : ℕ) → last ≡ L (common_of c) → (o : Option Sent) → ((r : rules.Open) → round_of o ≡ some r → SoundOpen (common_of c) r)
    → known_round last (mark (found (round_of o))) (sent_of o) ≡ true
unfolding known_round none_sent known_sent all_of
round_yes c last l None f = refl
round_yes c last l (Some s) f =
    let a = f _ refl in
    rw (
      lt-ltb s.time (2 ^ 48) a.time,
      le-leb s.report.progress last (omega (arith, l, a.progress)),
      lt-ltb s.report.completed (2 ^ 48) a.completed,
      le-leb s.report.run 1 a.run,
    )

module _ {t : Table} {n : Node} (g : Given t n) where
  sizes : Sizes t n.common
  sizes = given_sizes (common_given g)

  long_words : length (node_words n) ≡ 336
  unfolding node_words
  long_words = omega (arith, words_long sizes)

  node_back : node_in (node_words n) ≡ n
  unfolding node_in node_words sent_in
  node_back = λ i. record {
    number = n.number;
    common = same_back sizes i;
    progress = n.progress;
    completed = n.completed;
    running = mark_back n.running i;
    latest = n.latest;
    round = round_back n.round i;
  }

  last_back : n.common.base + n.common.count ≡ L (common_of n.common)
  last_back = sym (length_is (common_given g))

  own_yes : (last : ℕ) → last ≡ L (common_of n.common) → known_own t.nodes last n.number n.progress n.completed (mark n.running) n.latest ≡ true
  unfolding known_own all_of
  own_yes last l =
      rw (
        le-leb (n.progress + mark n.running) last (omega (arith, l, g.sound.progress)),
        lt-ltb n.number t.nodes g.sound.number,
        le-leb (mark n.running) 1 (mark_small n.running),
        lt-ltb n.completed (2 ^ 48) g.sound.completed,
        lt-ltb n.latest (2 ^ 49) g.sound.latest,
      )

  node_known : known_node t (node_words n) ≡ true
  unfolding known_node known_before node_words sent_in all_of
  node_known =
      let e : (common_in (common_words n.common)).base + (common_in (common_words n.common)).count ≡ n.common.base + n.common.count =
      ap (λ (c : Common). c.base + c.count) (same_back sizes) in
      rw (
        known_back sizes,
        own_yes _ (e ∙ last_back),
        round_yes n.common _ (e ∙ last_back) n.round g.sound.round,
      )

-- no node that was given back is refused
pub given_taken : {t : Table} {n : Node} → Given t n → node_at t (node_words n) ≡ done n
unfolding node_at
given_taken {t} {n} g = rw (eq-eqb (length (node_words n)) 336 (long_words g), node_known g, node_back g)
