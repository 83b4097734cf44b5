-- Laws of the exported functions: ExportCode has the words of an answer.
mod ExportCode
