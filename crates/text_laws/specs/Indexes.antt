-- What an index is made of can be written.
use Rattle.copy_text.specs.Texts.{IsName}
use Rattle.ddl_laws.specs.Respelling.{IsPath, IsBracketText}
use Rattle.row_texts.specs.declared.index_text.IndexText.{IndexText}

abbrev pub IsIndex : IndexText → Type 0
IsIndex said = IsName said.name × IsPath said.table × IsName said.method × IsBracketText said.rest
