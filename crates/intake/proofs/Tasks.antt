-- A list of tasks in the table's four arrays.
use mathlib.Core.Path.{◌≡◌, sym, ap, ◌∙◌}
use mathlib.Core.List.{List, [], ◌∷◌, ◌++◌, map}
use Prim.Native.Nat.{ℕ, ◌<◌}
use lib.ListN.{length, set, get_or, length-map, get_or-map}
use lib.Seq.{ext_get_or}
use Rattle.laws.specs.Lists.{pad}
use Rattle.laws.proofs.Lists.{map_append, pad_snoc, getD_pad, length_rows, rows_at}
use Rattle.rules.specs.Table as rules
use Rattle.rules.specs.Session.{read_task}
use Rattle.rules.proofs.Reading.{Takes, number_takes, give_takes, then_takes}
use Rattle.table.specs.declared.Table.{Table}
use Rattle.table.specs.Table.{row, table_of}
use Rattle.intake.specs.Table.{task_as, table_as, with_task}

-- a table of so many tasks, of which these were put in their places
abbrev pub so_far : ℕ → ℕ → ℕ → List rules.Task → Table
so_far m timeout count acc = record {
  nodes = m;
  timeout = timeout;
  count = count;
  longest = pad 64 0 (map (λ k. k.C) acc);
  distance = pad 64 0 (map (λ k. k.T) acc);
  deadline = pad 64 0 (map (λ k. k.D) acc);
  slack = pad 64 0 (map (λ k. k.S) acc);
}

field_more : (f : rules.Task → ℕ) (acc : List rules.Task) (k : rules.Task) → length acc < 64
    → set (pad 64 0 (map f acc)) (length acc) (f k) ≡ pad 64 0 (map f (acc ++ (k ∷ [])))
field_more f acc k h =
    ap (λ i. set (pad 64 0 (map f acc)) i (f k)) (sym (length-map acc f)) ∙ pad_snoc 64 0 (map f acc) (f k) (rw (length-map acc f) h)
    ∙ ap (pad 64 0) (sym (map_append f acc (k ∷ [])))

pub put_in : (m timeout count : ℕ) (acc : List rules.Task) (k : rules.Task) → length acc < 64
    → with_task (so_far m timeout count acc) (length acc) (task_as k) ≡ so_far m timeout count (acc ++ (k ∷ []))
put_in m timeout count acc k h = λ i. record {
  nodes = m;
  timeout = timeout;
  count = count;
  longest = field_more (λ k. k.C) acc k h i;
  distance = field_more (λ k. k.T) acc k h i;
  deadline = field_more (λ k. k.D) acc k h i;
  slack = field_more (λ k. k.S) acc k h i;
}

-- and the table by value stands for them
blank_row : rules.Task
blank_row = record { C = 0; T = 0; D = 0; S = 0 }

place_of : (f : rules.Task → ℕ) (tasks : List rules.Task) (i : ℕ) → i < length tasks → get_or (pad 64 0 (map f tasks)) i (f blank_row) ≡ f (get_or tasks i blank_row)
place_of f tasks i h =
    let l : i < length (map f tasks) = rw (length-map tasks f) h in
    getD_pad 64 0 (map f tasks) i (f blank_row) l ∙ get_or-map f tasks i blank_row

pub table_back : (tab : rules.Table) → table_of (table_as tab) ≡ tab
unfolding blank_row
table_back tab = ap (λ (l : List rules.Task). record { m = tab.m; timeout = tab.timeout; tasks = l })
    (ext_get_or blank_row _ tab.tasks (length_rows (row (table_as tab)) n) λ i h.
    let l : i < n = rw (length_rows (row (table_as tab)) n) at h in
    rows_at (row (table_as tab)) n i blank_row l
    ∙ λ j. record {
      C = place_of (λ k. k.C) tab.tasks i l j;
      T = place_of (λ k. k.T) tab.tasks i l j;
      D = place_of (λ k. k.D) tab.tasks i l j;
      S = place_of (λ k. k.S) tab.tasks i l j;
    })
  where
    n : ℕ
    n = length tab.tasks

pub task_takes : Takes read_task
task_takes = then_takes number_takes λ C. then_takes number_takes λ T. then_takes number_takes λ D. then_takes number_takes λ S. give_takes
