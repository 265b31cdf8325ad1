-- `read` meets its contract: it asks the readers of the parts in the order of the file. Assumes nothing.
use Rattle.std.proofs.Common.{◌≡◌, ◌∙◌, ap, sym, subst, arith, min, drop, ℕ, List}
use Rattle.std.proofs.lemmas.Result.{err_from_is_err_and}
use Rattle.guard.specs.Number.{Parsed, Parsed.accepted, Parsed.refused}
use Rattle.guard.specs.Question.{number_of}
use Rattle.numbers.specs.Reader.{Found}
use Rattle.headreader.specs.Head.{head_part}
use Rattle.headreader.specs.Head as heads
use Rattle.headreader.specs.declared.HeadTables.{HeadTables}
use Rattle.tables.specs.declared.LiteralTable.{LiteralTable}
use Rattle.literalreader.specs.LiteralReader.{in_table, literal_by, literals_by}
use Rattle.reader.specs.Reader.{limits_of}
use Rattle.reader.proofs.ReaderLaws.{all_read, few-rows, few-variants, head_stop, literals_stop, reads-there, supported, table-range, types-there}
use Rattle.reader.proofs.read.Goals as goal

-- the head is read within the limits that count
within : (bytes : List ℕ) (types terms a b : ℕ) (h : HeadTables) (at : ℕ) → a ≡ min types 6 → b ≡ min terms 24
    → Found (heads.in_tables (head_part a b) bytes) bytes h at → Found (heads.in_tables (head_part (min types 6) (min terms 24)) bytes) bytes h at
within bytes types terms a b h at e f found =
    subst (λ (n : ℕ). Found (heads.in_tables (head_part (min types 6) n) bytes) bytes h at) f (subst (λ (n : ℕ). Found (heads.in_tables (head_part n b) bytes) bytes h at) e found)

pub returns-in_err-h : goal.returns-in_err-h
returns-in_err-h c = let a = c.args in
    let p = err_from_is_err_and c.from_residual.result c.from_residual.ensures.1 in
    let e : c.min.result ≡ min a.types 6 = omega arith in
    let f : c.min-2.result ≡ min a.terms 24 = omega arith in
    rw (p.1, p.2) (head_stop (limits_of a.types a.terms a.lines) (supported a.types a.terms a.lines) a.bytes.now (number_of c.in_err-h.field-0.0)
    (ap (λ (n : ℕ). heads.in_tables (head_part n (min a.terms 24)) a.bytes.now) (sym e) ∙ ap (λ (n : ℕ). heads.in_tables (head_part c.min.result n) a.bytes.now) (sym f) ∙ c.in_err-h.ensures))

pub read_literals-requires : goal.read_literals-requires
read_literals-requires c = let a = c.args in
    let h = c.in_ok-h.h in
    let e : c.min.result ≡ min a.types 6 = omega arith in
    let f : c.min-2.result ≡ min a.terms 24 = omega arith in
    let read = within a.bytes.now a.types a.terms c.min.result c.min-2.result h.value h.at e f c.in_ok-h.ensures in
    record {
      limit_bound = omega arith;
      rows_bound = few-rows (limits_of a.types a.terms a.lines) (supported a.types a.terms a.lines) a.bytes.now h.value h.at read;
      each_below = few-variants (limits_of a.types a.terms a.lines) (supported a.types a.terms a.lines) a.bytes.now h.value h.at read;
      each_below_2 = types-there (limits_of a.types a.terms a.lines) (supported a.types a.terms a.lines) a.bytes.now h.value h.at read;
    }

-- the lines are read within their limit
lines-within : (L : ℕ) (n : ℕ) (p : ℕ → Parsed LiteralTable) (r : Parsed LiteralTable) → n ≡ L → p n ≡ r → p L ≡ r
lines-within L n p r e h = subst (λ (k : ℕ). p k ≡ r) e h

pub returns-in_err-literals : goal.returns-in_err-literals
returns-in_err-literals c = let a = c.args in
    let h = c.in_ok-h.h in
    let p = err_from_is_err_and c.from_residual-in_err-literals.result c.from_residual-in_err-literals.ensures.1 in
    let e : c.min.result ≡ min a.types 6 = omega arith in
    let f : c.min-2.result ≡ min a.terms 24 = omega arith in
    let g : c.min-3.result ≡ min a.lines 64 = omega arith in
    let read = within a.bytes.now a.types a.terms c.min.result c.min-2.result h.value h.at e f c.in_ok-h.ensures in
    rw (p.1, p.2) (literals_stop (limits_of a.types a.terms a.lines) (supported a.types a.terms a.lines) a.bytes.now h.value h.at read (number_of c.in_err-literals.field-0.0)
    (lines-within (min a.lines 64) c.min-3.result (λ n. in_table (literals_by n (literal_by h.value.types.variants h.value.rows.many h.value.rows.types)) (drop h.at a.bytes.now)) _ g c.in_err-literals.ensures))

pub sibling_fields-siblings-requires : goal.sibling_fields-siblings-requires
sibling_fields-siblings-requires c = let a = c.args in
    let h = c.in_ok-h.h in
    let e : c.min.result ≡ min a.types 6 = omega arith in
    let f : c.min-2.result ≡ min a.terms 24 = omega arith in
    let g : c.min-3.result ≡ min a.lines 64 = omega arith in
    let read = within a.bytes.now a.types a.terms c.min.result c.min-2.result h.value h.at e f c.in_ok-h.ensures in
    record {
      types_in_range = table-range (limits_of a.types a.terms a.lines) (supported a.types a.terms a.lines) a.bytes.now h.value h.at read;
      reads_in_range = reads-there (limits_of a.types a.terms a.lines) (supported a.types a.terms a.lines) a.bytes.now h.value h.at read c.in_ok-literals.literals
          (lines-within (min a.lines 64) c.min-3.result (λ n. in_table (literals_by n (literal_by h.value.types.variants h.value.rows.many h.value.rows.types)) (drop h.at a.bytes.now)) _ g c.in_ok-literals.ensures);
    }

pub returns : goal.returns
returns c = let a = c.args in
    let h = c.in_ok-h.h in
    let e : c.min.result ≡ min a.types 6 = omega arith in
    let f : c.min-2.result ≡ min a.terms 24 = omega arith in
    let g : c.min-3.result ≡ min a.lines 64 = omega arith in
    let read = within a.bytes.now a.types a.terms c.min.result c.min-2.result h.value h.at e f c.in_ok-h.ensures in
    all_read (limits_of a.types a.terms a.lines) (supported a.types a.terms a.lines) a.bytes.now h.value h.at read c.in_ok-literals.literals
    (lines-within (min a.lines 64) c.min-3.result (λ n. in_table (literals_by n (literal_by h.value.types.variants h.value.rows.many h.value.rows.types)) (drop h.at a.bytes.now)) _ g c.in_ok-literals.ensures)
    c.sibling_fields-siblings.result c.sibling_fields-siblings.ensures
