use Rattle.std.proofs.Common.{◌≡◌, ◌∙◌, true, None, ap, sym}
use Rattle.std.proofs.lemmas.List.{take_rest}
use Rattle.cd_pcapng.specs.Blocks.{is_section_header}
use Rattle.cd_pcapng.specs.Founds.{FoundSeen}
use Rattle.cd_pcapng.proofs.Beginnings.{front_begins, first_begins, refused_magic, open_few}
use Rattle.cd_pcapng.proofs.found.Found.front.Goals as goal

pub returns-then-bytes-lt-MAGIC_SIZE : goal.returns-then-bytes-lt-MAGIC_SIZE
returns-then-bytes-lt-MAGIC_SIZE c =
    let none : c.args.self.now.order ≡ None = ap (λ (f : FoundSeen). f.order) (sym c.self.view_is) ∙ c.in-None.is in
    open_few c.args.self.now c.args.at c.args.bytes.now none c.if-bytes-lt-MAGIC_SIZE.true

pub returns-then-not-has_magic : goal.returns-then-not-has_magic
returns-then-not-has_magic c =
    let none : c.args.self.now.order ≡ None = ap (λ (f : FoundSeen). f.order) (sym c.self.view_is) ∙ c.in-None.is in
    refused_magic c.args.self.now c.args.at c.args.bytes.now none (c.requires.start none) c.if-bytes-lt-MAGIC_SIZE.false
    (sym c.has_magic.ensures ∙ c.if-not-has_magic.true)

pub returns-in-Some : goal.returns-in-Some
returns-in-Some c =
    let found = rw (c.deref.ensures.value, take_rest) at c.front_of.ensures in
    rw (← c.self.view_is) (front_begins _ c.in-Some.order c.args.at c.args.bytes.now c.front_of.result c.in-Some.is c.self.invariant found)

pub returns-else-not-has_magic : goal.returns-else-not-has_magic
returns-else-not-has_magic c =
    let none : c.args.self.now.order ≡ None = ap (λ (f : FoundSeen). f.order) (sym c.self.view_is) ∙ c.in-None.is in
    let header : is_section_header c.args.bytes.now ≡ true = sym c.has_magic.ensures ∙ c.if-not-has_magic.false in
    first_begins c.args.self.now c.args.at c.args.bytes.now c.front_of-in-None.result none (c.requires.start none) c.if-bytes-lt-MAGIC_SIZE.false header
    c.front_of-in-None.ensures
