use Rattle.std.proofs.Common.{sym, ap, ◌∙◌}
use Rattle.std.specs.Prelude.{Err}
use Rattle.bk_text.specs.Faults.{fault_behind, unless}
use Rattle.bk_asm.specs.declared.fault.Kind.TheVariants as kinds
use Rattle.bk_asm.specs.Reading.{entries_at}
use Rattle.bk_asm.proofs.Entries.{entries_on, entries_stop, entries_done}
use Rattle.bk_asm.proofs.know.entries_at.Goals as goal

pub loop-word-preserved : goal.loop-word-preserved
loop-word-preserved c =
    let sets = c.loop-word.sets in
    let seen = c.loop-word.seen in
    let on = entries_on sets seen c.next_word.new.self.bad (record { column = c.in-Some.word.column; word = c.in-Some.word.word.now })
    c.next_word.new.self.words (c.in-Some-entry_of.number, c.in-Some-entry_of.set) (sym c.entry_of.ensures.value
    ∙ c.in-Some-entry_of.is) in
    record {
      value = rw (c.with_field-sets.ensures.value, c.seen_with-seen.ensures) (sym on
          ∙ (ap (λ r. entries_at sets seen r.bad r.words) (sym c.in-Some.ensures.some) ∙ c.loop-word.invariant.value));
      range = c.with_field-sets.ensures.range;
    }

pub returns-in_default-entry_of-clause-value : goal.returns-in_default-entry_of-clause-value
returns-in_default-entry_of-clause-value c =
    let sets = c.loop-word.sets in
    let seen = c.loop-word.seen in
    let stop = entries_stop sets seen c.next_word.new.self.bad (record { column = c.in-Some.word.column; word = c.in-Some.word.word.now })
    c.next_word.new.self.words (sym c.entry_of.ensures.value ∙ c.in_default-entry_of.is) in
    ap Err c.wrong.ensures
    ∙ (sym stop ∙ (ap (λ r. entries_at sets seen r.bad r.words) (sym c.in-Some.ensures.some) ∙ c.loop-word.invariant.value))

pub returns-in-None-clause-value : goal.returns-in-None-clause-value
returns-in-None-clause-value c =
    let row = c.loop-word.row in
    let last = c.fault_behind.ensures ∙ ap (λ r. fault_behind kinds.Byte kinds.Extra r.words r.bad) c.in_default.ensures.same in
    ap (λ o. unless o c.loop-word.sets) (sym c.in-None.is)
    ∙ (sym (entries_done c.loop-word.sets c.loop-word.seen row.bad row.words c.fault_behind.result c.in_default.ensures.none last)
    ∙ c.loop-word.invariant.value)

pub returns-in-Some-fault_behind-clause-value : goal.returns-in-Some-fault_behind-clause-value
returns-in-Some-fault_behind-clause-value c =
    let row = c.loop-word.row in
    let last = c.fault_behind.ensures ∙ ap (λ r. fault_behind kinds.Byte kinds.Extra r.words r.bad) c.in_default.ensures.same in
    ap (λ o. unless o c.loop-word.sets) (sym c.in-Some-fault_behind.is)
    ∙ (sym (entries_done c.loop-word.sets c.loop-word.seen row.bad row.words c.fault_behind.result c.in_default.ensures.none last)
    ∙ c.loop-word.invariant.value)
