-- Any two replies that a contract admits coincide, and so do the buffers that they leave.
use mathlib.Core.Path.{◌≡◌, sym, ◌∙◌}
use mathlib.Core.List.{List}
use Prim.Native.Nat.{ℕ}
use Rattle.lines.specs.Text.{Put, Front}

-- one law for the three lines, since their contracts differ in the text alone
module _ {s xs s' t' : List ℕ} {r q : ℕ} (e : Front s xs s' r) (d : Front s xs t' q) where
  pub line_settled : r ≡ q
  line_settled = e.count ∙ sym d.count

  pub buffer_settled : s' ≡ t'
  buffer_settled = e.content ∙ sym d.content

-- and one for every text that is put from a place on
module _ {s xs s' t' : List ℕ} {from r q : ℕ} (e : Put s from xs s' r) (d : Put s from xs t' q) where
  pub put_settled : r ≡ q
  put_settled = e.place ∙ sym d.place

  pub put_buffer_settled : s' ≡ t'
  put_buffer_settled = e.content ∙ sym d.content
