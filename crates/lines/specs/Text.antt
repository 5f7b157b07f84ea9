-- Bytes put into a lent buffer.
use Rattle.std.specs.Prelude.{◌≡◌, List, ℕ, ◌+◌, ◌≤◌, length}
use Rattle.std.proofs.lemmas.List.Edits.{sets}
use Rattle.laws.specs.Lists.{over}

-- xs put into s from a place on: what s is then, and the place past them.
pub record Put (s : List ℕ) (from : ℕ) (xs s' : List ℕ) (next : ℕ) : Type 0 where
  pub content : s' ≡ sets s from xs
  pub place : next ≡ from + length xs

-- The same, where xs are at most so many bytes.
pub record PutWithin (most : ℕ) (s : List ℕ) (from : ℕ) (xs s' : List ℕ) (next : ℕ) : Type 0 where
  pub put : Put s from xs s' next
  pub near : next ≤ from + most

-- xs put at the front of s: what s is then, and how many bytes they are.
pub record Front (s xs s' : List ℕ) (bytes : ℕ) : Type 0 where
  pub content : s' ≡ over xs s
  pub count : bytes ≡ length xs
