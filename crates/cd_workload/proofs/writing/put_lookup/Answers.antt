use Rattle.std.proofs.Common.{◌≡◌, List, ℕ, ◌++◌, OnOk, ap, sym, ◌∙◌, subst, append_assoc}
use Rattle.cd_pcap.specs.Spelled.{spelling_of, spellings}
use Rattle.cd_pcap.specs.Writing.{written_form}
use Rattle.cd_workload.specs.Workload.{query_record, response_record, records_of}
use Rattle.cd_workload.proofs.Datagrams.{unanswered, answered}
use Rattle.cd_workload.proofs.writing.put_lookup.Goals as goal

pub returns-then-lookup-eq0 : goal.returns-then-lookup-eq0
returns-then-lookup-eq0 c =
    c.in_ok-put_query.ensures ∙ ap (λ t. c.args.out.now ++ t) (sym (unanswered c.args.lookup c.if-lookup-eq0.true))

pub returns : goal.returns
returns c =
    let query : List ℕ = spelling_of written_form (query_record c.args.lookup) in
    let response : List ℕ = spelling_of written_form (response_record c.args.lookup) in
    let both : c.put_query.new.out ++ response ≡ c.args.out.now ++ spellings written_form (records_of c.args.lookup) =
    ap (λ t. t ++ response) c.in_ok-put_query.ensures ∙ append_assoc c.args.out.now query response
    ∙ ap (λ t. c.args.out.now ++ t) (sym (answered c.args.lookup c.if-lookup-eq0.false)) in
    subst (λ (t : List ℕ). OnOk c.put_response.result (c.put_response.new.out ≡ t)) both c.put_response.ensures
