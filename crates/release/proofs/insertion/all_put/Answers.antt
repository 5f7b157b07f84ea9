-- `insertion::all_put` meets its contract: each release goes into what the array holds by then.
use mathlib.Core.Path.{◌≡◌, sym, ap, ◌∙◌}
use mathlib.Core.List.{List}
use Prim.Native.Nat.{ℕ, ◌+◌, ◌≤◌, ◌<◌}
use native.Mathlib.Omega.{arith}
use lib.ListN.{length, take, get_or, length-take}
use lib.Seq.{length-take-le, take_all, get_or-take}
use Rattle.std.proofs.lemmas.List.Sums.{fold_more}
use Rattle.laws.specs.Lists.{pad, push_in}
use Rattle.laws.proofs.Lists.{length_of_map, rows_at}
use Rattle.round.specs.declared.Release.{Release}
use Rattle.round.specs.declared.Round.{Round}
use Rattle.round.specs.Round.{release_of, releases_of, no_release}
use Rattle.release.specs.Insertion.{place_in, put_in, put_all, Packed, Room}
use Rattle.release.proofs.Releases.{releases_count}
use Rattle.release.proofs.Order.{packed_kept, packed_pad, place_within, put_packed, put_none, put_all_long}
use Rattle.release.proofs.insertion.all_put.Goals as goal

-- the task of a release that is walked
abbrev task_at : Round → ℕ → ℕ
task_at q i = (get_or (take q.listed q.releases) i no_release).task

-- what the array holds once i releases are in
abbrev held : List ℕ → ℕ → ℕ → Round → ℕ → List ℕ
held tasks count past q i = put_all past (take count tasks) (take i (releases_of q))

module _ {tasks : List ℕ} {count past : ℕ} {q : Round} (v : Packed tasks count) (r : Room count past q) (i : ℕ) where
  held_long : i ≤ q.listed → length (held tasks count past q i) ≡ count + i
  held_long h =
      let n : length (take i (releases_of q)) ≡ i = length-take-le i (releases_of q) (omega (arith, releases_count q)) in
      put_all_long past (take count tasks) (take i (releases_of q)) (omega (arith, packed_kept v, r.from)) ∙ omega (arith, packed_kept v)

  held_kept : i ≤ q.listed → (take (count + i) (pad 256 0 (held tasks count past q i)) ≡ held tasks count past q i) × Packed (pad 256 0 (held tasks count past q i)) (count + i)
  held_kept h = packed_pad (held tasks count past q i) (held_long h) (omega (arith, r.all))

  held_more : i < q.listed → held tasks count past q (i + 1) ≡ put_in (task_at q i) past (held tasks count past q i)
  unfolding put_all
  held_more h =
      let there : get_or (releases_of q) i (release_of no_release) ≡ release_of (get_or q.releases i no_release) =
      rows_at (λ k. release_of (get_or q.releases k no_release)) q.listed i (release_of no_release) h in
      let here : (get_or (releases_of q) i (release_of no_release)).task_of ≡ task_at q i =
      rw there (sym (ap (λ (x : Release). x.task) (get_or-take q.listed q.releases i no_release h))) in
      fold_more (λ l x. put_in x.task_of past l) (take count tasks) (releases_of q) i (release_of no_release) (omega (arith, releases_count q))
      ∙ ap (λ (k : ℕ). put_in k past (held tasks count past q i)) here

  module _ (h : i < length (take q.listed q.releases)) {next : List ℕ} (e : next ≡ pad 256 0 (held tasks count past q i)) where
    inside : i < q.listed
    inside = omega (arith, length-take q.listed q.releases)

    packed : Packed next (count + i)
    packed = rw e (held_kept (omega (arith, inside))).1

    kept : take (count + i) next ≡ held tasks count past q i
    kept = rw e (held_kept (omega (arith, inside))).0

    room : count + i < 256
    room = omega (arith, r.all, inside)

    from : past ≤ length (held tasks count past q i)
    from = omega (arith, r.from, held_long (omega (arith, inside)))

    module _ {at : ℕ} (p : at ≡ place_in (task_at q i) past (take (count + i) next)) where
      at_is : at ≡ place_in (task_at q i) past (held tasks count past q i)
      at_is = rw (← kept) p

      within : at ≤ count + i
      within = omega (arith, at_is, place_within (task_at q i) past (held tasks count past q i) from, held_long (omega (arith, inside)))

      pushed : {new : List ℕ} → new ≡ push_in next (count + i) at (task_at q i) → new ≡ pad 256 0 (held tasks count past q (i + 1))
      pushed d =
          let n : length (held tasks count past q i) ≡ count + i = held_long (omega (arith, inside)) in
          d ∙ rw (e, at_is, ← n, held_more inside) (put_packed (task_at q i) past (held tasks count past q i) from (omega (arith, room)))

pub loop-i-init : goal.loop-i-init
loop-i-init c = c.requires.0.exact ∙ ap (pad 256 0) (sym (put_none c.args.past (take c.args.count c.args.tasks)))

pub place-at-requires : goal.place-at-requires
place-at-requires c = (packed c.requires.0 c.requires.1 c.loop-i.i (omega arith) c.loop-i.invariant, omega (arith, c.requires.1.from))

pub push-requires : goal.push-requires
push-requires c =
    let h : c.loop-i.i < length (take c.args.q.listed c.args.q.releases) = omega arith in (
      packed c.requires.0 c.requires.1 c.loop-i.i h c.loop-i.invariant,
      within c.requires.0 c.requires.1 c.loop-i.i h c.loop-i.invariant c.place-at.ensures,
      room c.requires.0 c.requires.1 c.loop-i.i h c.loop-i.invariant,
    )

pub loop-i-preserved : goal.loop-i-preserved
loop-i-preserved c = pushed c.requires.0 c.requires.1 c.loop-i.i (omega arith) c.loop-i.invariant c.place-at.ensures c.push.ensures

pub returns : goal.returns
returns c =
    let l : length c.args.q.releases ≡ 64 = search length_of_map in
    let n : c.args.q.listed ≤ c.loop-i.i = omega (arith, length-take c.args.q.listed c.args.q.releases, c.requires.1.listed) in
    c.loop-i.invariant ∙ ap (λ xs. pad 256 0 (put_all c.args.past (take c.args.count c.args.tasks) xs)) (take_all c.loop-i.i (releases_of c.args.q) (omega (arith, releases_count c.args.q)))
