-- Words as the code takes them apart.
use Rattle.std.specs.Prelude.{◌≡◌, ℕ, ◌+◌, List, ◌∷◌, ◌<◌, length, drop, option_map}
use Rattle.command_line.specs.declared.reader.Reader.{Reader}
use Rattle.command_line.specs.declared.reading.Word.TheVariants as word
use Rattle.command_line.specs.declared.reading.Named.{Named}
use Rattle.command_line.specs.Reading.{Word, Ends, Long, Short, Bare, name_of, value_of}
use Rattle.command_line.specs.declared.reading.Word.{Word as Taken}

abbrev pub word_seen : Taken → Word
word_seen word.Ends = Ends
word_seen (word.Long name) = Long name.now
word_seen (word.Short letters) = Short letters.now
word_seen word.Bare = Bare

pub record IsNamed (text : List ℕ) (named : Named) : Type 0 where
  pub name : named.name.now ≡ name_of text
  pub value : option_map (λ v. v.now) named.value ≡ value_of text

-- a reader's next word
pub record IsNext (reader : Reader) (text : List ℕ) : Type 0 where
  pub words : drop reader.at reader.words.now ≡ text ∷ drop (reader.at + 1) reader.words.now
  pub there : reader.at < length reader.words.now
