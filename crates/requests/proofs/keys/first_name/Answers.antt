use Rattle.std.proofs.Common.{lit<, Some, None}
use Rattle.std.proofs.lemmas.Str.Pattern.{split_once_first}
use Rattle.requests.proofs.KeyLemmas.{names_more, names_one}
use Rattle.requests.proofs.keys.first_name.Goals as goal

pub returns-in-Some-clause-names : goal.returns-in-Some-clause-names
returns-in-Some-clause-names c =
    let cut = split_once_first 44 c.args.list.now (Some (c.in-Some.name, c.in-Some.rest)) c.in-Some.ensures.cases (lit< tt) in
    names_more c.args.list.now c.in-Some.name.now c.in-Some.rest.now cut.0 cut.1 cut.2

pub returns-in-None-clause-names : goal.returns-in-None-clause-names
returns-in-None-clause-names c = names_one c.args.list.now (split_once_first 44 c.args.list.now None c.in-None.ensures.cases (lit< tt))
