use Rattle.std.proofs.Common.{◌∙◌}
use Rattle.goo_desk_responses.proofs.HeadLines.{lines-made}
use Rattle.goo_desk_responses.proofs.response.head.Goals as goal

pub returns-clause-bytes : goal.returns-clause-bytes
returns-clause-bytes c =
    lines-made c.args.status c.args.content c.args.allow c.args.length c.from.result
    c.new-out.result.bytes c.push_counted.new.out.bytes c.push_line.new.out.bytes c.push_line-2.new.out.bytes c.push_str.new.self.bytes c.push_counted-2.new.out.bytes
    c.phrase.result.now c.media_type.result.now c.allow_line.result.now
    c.new-out.ensures (c.from.ensures ∙ c.code.ensures) c.push_counted.ensures.bytes
    c.phrase.ensures.value c.push_line.ensures.bytes
    c.media_type.ensures.value c.push_line-2.ensures.bytes
    c.allow_line.ensures.value c.push_str.ensures.bytes
    c.push_counted-2.ensures.bytes
