use Rattle.std.proofs.Common.{ℕ, ◌+◌, List, [], ◌∷◌, ◌++◌, length, subst}
use Rattle.methods_091.specs.Closing.{head_text, IsWrittenOver}
use Rattle.methods_091.proofs.Placing.{close_is}
use Rattle.methods_091.proofs.closing.put_closing.Goals as goal

pub returns : goal.returns
returns c =
    let old = c.args.out.now in
    let text = c.args.text.now in
    let head : List ℕ = head_text c.args.channel (11 + length text) in
    let second = c.write_at-at.ensures.bytes head old c.write_head-at.ensures in
    let ids : List ℕ = head ++ c.args.ids.now in
    let third = c.write_at-at-2.ensures.bytes ids old second in
    let code : List ℕ = ids ++ c.to_be_bytes.result in
    let fourth = c.write_at-at-3.ensures.bytes code old third in
    let count : List ℕ = code ++ (length text ∷ []) in
    let fifth = c.write_at-at-4.ensures.bytes count old fourth in
    let words : List ℕ = count ++ text in
    let sixth = c.write_at-at-5.ensures.bytes words old fifth in
    let class : List ℕ = words ++ c.to_be_bytes-2.result in
    let seventh = c.write_at-at-6.ensures.bytes class old sixth in
    let method : List ℕ = class ++ c.to_be_bytes-3.result in
    let eighth = c.write_at.ensures.bytes method old seventh in
    let Stands : List ℕ → Type 0 = λ t. IsWrittenOver t old c.write_at.new.out c.write_at.result in
    subst Stands (close_is c.args.channel c.args.code c.args.class c.args.method c.args.ids.now text c.to_be_bytes.result c.to_be_bytes-2.result c.to_be_bytes-3.result c.told-ids c.requires
    c.to_be_bytes.ensures c.to_be_bytes-2.ensures c.to_be_bytes-3.ensures) eighth
