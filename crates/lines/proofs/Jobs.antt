-- The text of jobs, with one more behind it, with the next one taken off, and of one.
use mathlib.Core.Path.{◌≡◌, sym, ap, ◌∙◌}
use mathlib.Core.List.{List, [], ◌∷◌, ◌++◌, append_assoc, append-nil}
use Prim.Native.Nat.{ℕ, suc, ◌+◌, ◌*◌, ◌^◌, ◌<◌}
use native.Mathlib.Nat.{add-zero}
use native.Mathlib.Omega.{arith}
use lib.ListN.{length, take, drop, get_or, length-take}
use Rattle.std.proofs.lemmas.List.{take_more}
use Rattle.laws.proofs.Lists.{drop_here}
use Rattle.rules.specs.Session.{ascii, decimal, jobs_from}
use Rattle.lines.specs.Text.{Put, PutWithin}
use Rattle.lines.specs.Lines.{job_text, jobs_of}
use Rattle.lines.proofs.Putting.{put_then, put_behind}
use Rattle.lines.proofs.Decimal.{length_decimal}

jobs_cons : (p t : ℕ) (ts : List ℕ) → jobs_from p (jobs_of (t ∷ ts)) ≡ job_text p t ++ jobs_from (p + 1) (jobs_of ts)
unfolding jobs_from job_text
jobs_cons p t ts = simp append_assoc

-- the text of one job more
pub jobs_more : (p : ℕ) (ts : List ℕ) (t : ℕ) → jobs_from p (jobs_of (ts ++ (t ∷ []))) ≡ jobs_from p (jobs_of ts) ++ job_text (p + length ts) t
unfolding jobs_from
jobs_more p [] t = jobs_cons p t [] ∙ rw (append-nil, add-zero p)
jobs_more p (x ∷ ts) t =
    let e : p + 1 + length ts ≡ p + suc (length ts) = omega arith in
    jobs_cons p x (ts ++ (t ∷ [])) ∙ ap (λ (l : List ℕ). job_text p x ++ l) (jobs_more (p + 1) ts t) ∙ rw e (sym (append_assoc (job_text p x) (jobs_from (p + 1) (jobs_of ts)) _))
    ∙ ap (λ (l : List ℕ). l ++ job_text (p + suc (length ts)) t) (sym (jobs_cons p x ts))

-- the next job of a list, and those behind it
pub jobs_next : (p : ℕ) (ts : List ℕ) (k : ℕ) {t : ℕ} → k < length ts → get_or ts k 0 ≡ t
    → jobs_from p (jobs_of (drop k ts)) ≡ job_text p t ++ jobs_from (p + 1) (jobs_of (drop (k + 1) ts))
unfolding jobs_from job_text
jobs_next p ts k h e = rw (drop_here ts k 0 h e)

-- the next job put behind those before it
pub jobs_step : {s s' s'' : List ℕ} {from at next : ℕ} (base : ℕ) (ts : List ℕ) (k : ℕ) → k < length ts
    → PutWithin (25 * k) s from (jobs_from (base + 1) (jobs_of (take k ts))) s' at → PutWithin 25 s' at (job_text (base + 1 + k) (get_or ts k 0)) s'' next
    → PutWithin (25 * (k + 1)) s from (jobs_from (base + 1) (jobs_of (take (k + 1) ts))) s'' next
jobs_step base ts k h p q =
    let l : length (take k ts) ≡ k = rw length-take (omega arith) in
    let e : jobs_from (base + 1) (jobs_of (take (k + 1) ts)) ≡ jobs_from (base + 1) (jobs_of (take k ts)) ++ job_text (base + 1 + k) (get_or ts k 0)
    = rw (take_more ts k 0 h) (rw l at (jobs_more (base + 1) (take k ts) (get_or ts k 0))) in
    record { put = rw e (put_then p.put q.put); near = omega (arith, p.near, q.near) }

-- a position of at most 20 digits, a task of at most 3
pub job_put : {s s' s'' : List ℕ} {from at next position task number : ℕ} → position < 2 ^ 64 → task < 2 ^ 8 → number ≡ task
    → Put s from (ascii " " ++ decimal position) s' at → Put s' at (ascii ":" ++ decimal number) s'' next → PutWithin 25 s from (job_text position task) s'' next
unfolding job_text ascii
job_put {position = position} {task = task} b t e p v =
    let q = rw e at v in
    record {
      put = put_behind (ascii ":") (decimal task) p q;
      near = omega (arith, p.place, q.place, length_decimal 19 position (omega arith), length_decimal 2 task (omega arith));
    }
