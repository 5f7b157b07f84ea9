-- Any two replies that a door's contract admits coincide, and so does what is left in whatever was lent.
use mathlib.Core.Path.{◌≡◌, sym, ◌∙◌}
use mathlib.Core.Bool.{false}
use mathlib.Core.List.{List}
use Prim.Native.Nat.{ℕ}
use lib.ListN.{length}
use Rattle.std.specs.Prelude.{Result}
use Rattle.rules.specs.Node as rules
use Rattle.rules.specs.Numbers.{number}
use Rattle.rules.specs.Written.{write_number}
use Rattle.refusal.specs.declared.Refusal.{Refusal}
use Rattle.refusal.specs.Refusal.{answer_of, number_of}
use Rattle.node.specs.declared.StartRefusal.{StartRefusal}
use Rattle.node.specs.Refusals.{start_answer}
use Rattle.cabinet.specs.declared.reply.Reply.{Reply}
use Rattle.cabinet.specs.declared.reply.NumberReply.{NumberReply}
use Rattle.cabinet.specs.declared.reply.ReportReply.{ReportReply}
use Rattle.cabinet.specs.declared.reply.CloseReply.{CloseReply}
use Rattle.cabinet.specs.declared.reply.RecordReply.{RecordReply}
use Rattle.cabinet.specs.Replies.{replied, no_close, left, reported, closing, number_told, used_told, record_told}
use Rattle.cabinet.specs.Fresh.{check_door, fresh_common_door, fresh_node_door}
use Rattle.cabinet.specs.Nodes.{start_door, finish_door, report_door, close_door}
use Rattle.cabinet.specs.Nodes as nodes
use Rattle.cabinet.specs.Stations.{close_station_door, projection_door, bound_door, order_door, order_over}
use Rattle.cabinet.specs.Stations as stations
use Rattle.cabinet.specs.Records.{read_record_door, write_record_door, read_table_door, releases_over, entries_over, table_over}

-- a door that writes nothing, and one that may write an array: one equation each for the reply and for the array
one : {A : Type 0} {r s x : A} → r ≡ x → s ≡ x → r ≡ s
one e d = e ∙ sym d

both : {A B : Type 0} {r s x : A} {l m y : B} → (r ≡ x) × (l ≡ y) → (s ≡ x) × (m ≡ y) → (r ≡ s) × (l ≡ m)
both e d = (one e.0 d.0, one e.1 d.1)

-- the replies that stand for an answer
pub reply_settled : (a : Result ℕ Refusal) {r s : Reply} → r ≡ replied (λ v. v) (answer_of a) → s ≡ replied (λ v. v) (answer_of a) → r ≡ s
reply_settled a = one

pub start_reply_settled : (a : Result ℕ StartRefusal) {r s : Reply} → r ≡ replied (λ v. v) (start_answer a) → s ≡ replied (λ v. v) (start_answer a) → r ≡ s
start_reply_settled a = one

pub no_close_settled : (e : Refusal) {r s : CloseReply} → r ≡ no_close (number_of e) → s ≡ no_close (number_of e) → r ≡ s
no_close_settled e = one

module _ (ts : List ℕ) where
  pub check_settled : {r s : Reply} → r ≡ replied (λ _. 0) (check_door ts) → s ≡ replied (λ _. 0) (check_door ts) → r ≡ s
  check_settled = one

module _ (cs : List ℕ) where
  abbrev FreshCommon : Reply → List ℕ → Type 0
  FreshCommon r l = (r ≡ replied (λ _. 0) (fresh_common_door cs)) × (l ≡ left stations.words_of cs (fresh_common_door cs))

  pub fresh_common_settled : {r s : Reply} {l m : List ℕ} → FreshCommon r l → FreshCommon s m → (r ≡ s) × (l ≡ m)
  fresh_common_settled = both

module _ (ts ns : List ℕ) where
  module _ (k : ℕ) where
    abbrev FreshNode : Reply → List ℕ → Type 0
    FreshNode r l = (r ≡ replied (λ _. 0) (fresh_node_door ts ns k)) × (l ≡ left nodes.words_of ns (fresh_node_door ts ns k))

    pub fresh_node_settled : {r s : Reply} {l m : List ℕ} → FreshNode r l → FreshNode s m → (r ≡ s) × (l ≡ m)
    fresh_node_settled = both

    abbrev Start : Reply → List ℕ → Type 0
    Start r l = (r ≡ replied (λ a. a.named) (start_door ts ns k)) × (l ≡ left (λ a. nodes.words_of a.node) ns (start_door ts ns k))

    pub start_settled : {r s : Reply} {l m : List ℕ} → Start r l → Start s m → (r ≡ s) × (l ≡ m)
    start_settled = both

    abbrev Finish : Reply → List ℕ → Type 0
    Finish r l = (r ≡ replied (λ _. 0) (finish_door ts ns k)) × (l ≡ left nodes.words_of ns (finish_door ts ns k))

    pub finish_settled : {r s : Reply} {l m : List ℕ} → Finish r l → Finish s m → (r ≡ s) × (l ≡ m)
    finish_settled = both

    abbrev Report : ReportReply → List ℕ → Type 0
    Report r l = (r ≡ reported (λ a. a.sent) (report_door ts ns k)) × (l ≡ left (λ a. nodes.words_of a.node) ns (report_door ts ns k))

    pub report_settled : {r s : ReportReply} {l m : List ℕ} → Report r l → Report s m → (r ≡ s) × (l ≡ m)
    report_settled = both

  module _ (k : ℕ) (rs es : List ℕ) where
    abbrev Close : CloseReply → List ℕ → Type 0
    Close r l =
        (r ≡ closing (λ a. a.reply) (λ a. rules.left_behind a.node) (close_door ts ns k rs es))
        × (l ≡ left (λ a. nodes.words_of a.node) ns (close_door ts ns k rs es))

    pub close_settled : {r s : CloseReply} {l m : List ℕ} → Close r l → Close s m → (r ≡ s) × (l ≡ m)
    close_settled = both

module _ (ts cs : List ℕ) where
  module _ (k : ℕ) (rs es : List ℕ) where
    abbrev CloseStation : CloseReply → List ℕ → Type 0
    CloseStation r l =
        (r ≡ closing (λ a. a.reply) (λ _. false) (close_station_door ts cs k rs es)) × (l ≡ left (λ a. stations.words_of a.common) cs (close_station_door ts cs k rs es))

    pub close_station_settled : {r s : CloseReply} {l m : List ℕ} → CloseStation r l → CloseStation s m → (r ≡ s) × (l ≡ m)
    close_station_settled = both

  pub projection_settled : (p : ℕ) {r s : Reply} → r ≡ replied (λ v. v) (projection_door ts cs p) → s ≡ replied (λ v. v) (projection_door ts cs p) → r ≡ s
  projection_settled p = one

  pub bound_settled : (p t : ℕ) {r s : Reply} → r ≡ replied (λ v. v) (bound_door ts cs p t) → s ≡ replied (λ v. v) (bound_door ts cs p t) → r ≡ s
  bound_settled p t = one

  module _ (os : List ℕ) where
    abbrev Order : Reply → List ℕ → Type 0
    Order r l = (r ≡ replied length (order_door ts cs os)) × (l ≡ left (order_over os) os (order_door ts cs os))

    pub order_settled : {r s : Reply} {l m : List ℕ} → Order r l → Order s m → (r ≡ s) × (l ≡ m)
    order_settled = both

module _ (bs : List ℕ) where
  pub read_number_settled : {r s : NumberReply} → r ≡ number_told bs (number bs) → s ≡ number_told bs (number bs) → r ≡ s
  read_number_settled = one

  module _ (v : ℕ) where
    abbrev WriteNumber : Reply → List ℕ → Type 0
    WriteNumber r l = (r ≡ replied (λ w. w.bytes) (write_number v bs)) × (l ≡ left (λ w. w.buffer) bs (write_number v bs))

    pub write_number_settled : {r s : Reply} {l m : List ℕ} → WriteNumber r l → WriteNumber s m → (r ≡ s) × (l ≡ m)
    write_number_settled = both

  module _ (ts : List ℕ) where
    abbrev ReadTable : Reply → List ℕ → Type 0
    ReadTable r l = (r ≡ used_told bs (read_table_door bs ts)) × (l ≡ left table_over ts (read_table_door bs ts))

    pub read_table_settled : {r s : Reply} {l m : List ℕ} → ReadTable r l → ReadTable s m → (r ≡ s) × (l ≡ m)
    read_table_settled = both

  module _ (k : ℕ) (rs es : List ℕ) where
    abbrev WriteRecord : Reply → List ℕ → Type 0
    WriteRecord r l = (r ≡ replied (λ w. w.bytes) (write_record_door bs k rs es)) × (l ≡ left (λ w. w.buffer) bs (write_record_door bs k rs es))

    pub write_record_settled : {r s : Reply} {l m : List ℕ} → WriteRecord r l → WriteRecord s m → (r ≡ s) × (l ≡ m)
    write_record_settled = both

  module _ (rs es : List ℕ) where
    abbrev ReadRecord : RecordReply → List ℕ → List ℕ → Type 0
    ReadRecord r l e =
        (r ≡ record_told bs (read_record_door bs rs es))
        × ((l ≡ left (releases_over rs) rs (read_record_door bs rs es)) × (e ≡ left (entries_over es) es (read_record_door bs rs es)))

    pub read_record_settled : {r s : RecordReply} {l m e f : List ℕ} → ReadRecord r l e → ReadRecord s m f → (r ≡ s) × ((l ≡ m) × (e ≡ f))
    read_record_settled a b = (one a.0 b.0, both a.1 b.1)
